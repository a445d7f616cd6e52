-- An entry that holds the byte is one more holder.
use Rattle.overlap_report.proofs.Words.{◌+◌, ◌^◌, take, get_or, subst, sym, ◌∙◌, refl, arith, Least, AreLeast}
use Rattle.overlap_report.proofs.CoverSteps.{entry_ends}
use Rattle.overlap_report.proofs.KeySteps.{nothing, next_at}
use Rattle.overlap_report.proofs.PairSteps.{least_next, least_same}
use Rattle.overlap_report.proofs.holders.pair_at.Goals as goal
use Rattle.overlap_report.proofs.holders.pair_at.Goals.{then-entry-at+then-at-entry, else-entry-at, else-entry-at-via-then-entry-at+else-at-entry, else-entry-at-via-else-entry-at}

pub overflow_add-entry : goal.overflow_add-entry
overflow_add-entry c =
    let ends = entry_ends c.args.list.now (2 ^ 62) c.loop-entry.entry-index nothing c.requires c.loop-entry-test.true in
    omega arith

pub loop-entry-preserved : goal.loop-entry-preserved
loop-entry-preserved c =
    elim c.if-entry-at.branch [
      | then-entry-at+then-at-entry w ↦
          subst (λ (z : Least). AreLeast (take (c.loop-entry.entry-index + 1) c.args.list.now) c.args.at z) (sym (w.least-is ∙ w.with-least.ensures))
          (least_next (take c.loop-entry.entry-index c.args.list.now) (take (c.loop-entry.entry-index + 1) c.args.list.now) (get_or c.args.list.now c.loop-entry.entry-index nothing)
          c.args.at c.loop-entry.least _ (next_at c.args.list.now c.loop-entry.entry-index c.loop-entry-test.true) (w.if-entry-at.true, w.if-at-entry.true) refl c.loop-entry.invariant)
      | else-entry-at w ↦
          subst (λ (z : Least). AreLeast (take (c.loop-entry.entry-index + 1) c.args.list.now) c.args.at z) (sym w.least-is)
          (least_same (take c.loop-entry.entry-index c.args.list.now) (take (c.loop-entry.entry-index + 1) c.args.list.now) (get_or c.args.list.now c.loop-entry.entry-index nothing)
          c.args.at c.loop-entry.least (next_at c.args.list.now c.loop-entry.entry-index c.loop-entry-test.true)
          (elim w.else-entry-at.branch [
            | else-entry-at-via-then-entry-at+else-at-entry v ↦ (λ h. let past = h.1 in absurd (omega arith))
            | else-entry-at-via-else-entry-at v ↦ (λ h. let low = h.0 in absurd (omega arith))
          ])
          c.loop-entry.invariant)
    ]
