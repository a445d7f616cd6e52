-- An entry shares a byte with those before it where one of another request reaches past its begin.
use Rattle.overlap_report.proofs.Words.{ℕ, ◌+◌, ◌^◌, ◌<◌, ◌≤◌, take, get_or, subst, sym, ◌∙◌, arith, Reach, get_or_default}
use Rattle.overlap_report.proofs.CoverSteps.{entry_ends}
use Rattle.overlap_report.proofs.KeySteps.{nothing, next_at}
use Rattle.overlap_report.proofs.SharedSteps.{Reaches, reach_next, reach_same, first_found, all_clear}
use Rattle.overlap_report.proofs.shared.first_shared.Goals as goal
use Rattle.overlap_report.proofs.shared.first_shared.Goals.{then-entry-gt0+else-entry-of_others, else-entry-gt0}

pub returns-then-entry-of_others : goal.returns-then-entry-of_others
returns-then-entry-of_others c =
    first_found c.args.list.now c.loop-entry.entry-index c.loop-entry.reach (get_or c.args.list.now c.loop-entry.entry-index nothing) c.loop-entry-test.true
    (get_or_default c.args.list.now c.loop-entry.entry-index nothing (get_or c.args.list.now c.loop-entry.entry-index nothing) c.loop-entry-test.true)
    c.requires.sorted c.if-entry-gt0.true
    (subst (λ (n : ℕ). (get_or c.args.list.now c.loop-entry.entry-index nothing).extent.at < n) c.of_others.ensures c.if-entry-of_others.true) c.loop-entry.invariant

pub with-reach-requires : goal.with-reach-requires
with-reach-requires c = entry_ends c.args.list.now (2 ^ 62) c.loop-entry.entry-index nothing c.requires.ends c.loop-entry-test.true

pub loop-entry-preserved : goal.loop-entry-preserved
loop-entry-preserved c =
    elim c.if-entry-gt0.branch [
      | then-entry-gt0+else-entry-of_others w ↦
          subst (λ (z : Reach). Reaches z (take (c.loop-entry.entry-index + 1) c.args.list.now)) (sym (w.reach-is ∙ w.with-reach.ensures))
          (reach_next (take c.loop-entry.entry-index c.args.list.now) (take (c.loop-entry.entry-index + 1) c.args.list.now) c.loop-entry.reach
          (get_or c.args.list.now c.loop-entry.entry-index nothing) (next_at c.args.list.now c.loop-entry.entry-index c.loop-entry-test.true) w.if-entry-gt0.true
          (subst (λ (n : ℕ). n ≤ (get_or c.args.list.now c.loop-entry.entry-index nothing).extent.at) w.of_others.ensures w.if-entry-of_others.false) c.loop-entry.invariant)
      | else-entry-gt0 w ↦
          subst (λ (z : Reach). Reaches z (take (c.loop-entry.entry-index + 1) c.args.list.now)) (sym w.reach-is)
          (reach_same (take c.loop-entry.entry-index c.args.list.now) (take (c.loop-entry.entry-index + 1) c.args.list.now) c.loop-entry.reach
          (get_or c.args.list.now c.loop-entry.entry-index nothing) (next_at c.args.list.now c.loop-entry.entry-index c.loop-entry-test.true)
          (let none = w.if-entry-gt0.false in omega arith) c.loop-entry.invariant)
    ]

pub returns : goal.returns
returns c = all_clear c.args.list.now c.loop-entry.entry-index c.loop-entry.reach (omega arith) c.loop-entry.invariant
