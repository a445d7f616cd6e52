-- Each entry makes the hull longer, or has a hole before it.
use Rattle.data_sieving.proofs.Words.{no_entry, inl, inr, ◌∙◌, ap, sym, refl, max, min, get_or, arith, ℕ, length-append, entry_ends, extents_left, extents_right}
use Rattle.data_sieving.proofs.HullSteps.{reach_scanned, scanned_more, all_scanned}
use Rattle.data_sieving.proofs.walk.window_of.Goals.{then-entry-end, else-entry-end}
use Rattle.data_sieving.proofs.walk.window_of.Goals as goal

pub reach-end-requires-clause-ends : goal.reach-end-requires-clause-ends
reach-end-requires-clause-ends c = λ e m. c.requires.ends e (extents_left c.args.carried.now c.args.fresh.now e m)

pub end_of-requires : goal.end_of-requires
end_of-requires c =
    let low = entry_ends c.args.fresh.now c.loop-entry.entry-index no_entry (λ e m. c.requires.ends e (extents_right c.args.carried.now c.args.fresh.now e m)) c.loop-entry-test.true in
    omega arith

pub loop-entry-init : goal.loop-entry-init
loop-entry-init c = reach_scanned c.args.at c.args.stop c.reach-end.result c.args.carried.now c.args.fresh.now c.requires.order c.requires.across c.reach-end.ensures

pub loop-entry-preserved : goal.loop-entry-preserved
loop-entry-preserved c =
    scanned_more c.args.at c.args.stop c.loop-entry.end c.max-end.result c.loop-entry.entry-index c.loop-entry.full c.if-entry-end.full c.args.carried.now c.args.fresh.now
    (get_or c.args.fresh.now c.loop-entry.entry-index no_entry) no_entry c.loop-entry-test.true refl c.requires.sorted c.requires.filled c.requires.before c.requires.first c.requires.order
    (c.max-end.ensures ∙ ap (λ (n : ℕ). max c.loop-entry.end n) (c.min.ensures ∙ ap (λ (n : ℕ). min n c.args.stop) c.end_of.ensures))
    (elim c.if-entry-end.branch [ then-entry-end w ↦ (λ e. cc (w.full-is, e)) | else-entry-end w ↦ (λ e. (sym w.full-is ∙ e, w.if-entry-end.false)) ])
    (elim c.if-entry-end.branch [ then-entry-end w ↦ (λ e. inr w.if-entry-end.true) | else-entry-end w ↦ (λ e. inl (sym w.full-is ∙ e)) ])
    c.loop-entry.invariant

pub returns : goal.returns
returns c =
    let some = c.requires.some in
    let last = c.loop-entry-test.false in
    all_scanned c.args.at c.args.stop c.loop-entry.end c.loop-entry.entry-index c.loop-entry.full c.args.carried.now c.args.fresh.now _ last
    (omega (arith, length-append c.args.carried.now c.args.fresh.now)) c.loop-entry.invariant refl refl refl
