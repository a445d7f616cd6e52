-- A row's step is the difference of its first two places.
use Rattle.vara_extents.proofs.Words.{◌≡◌, ◌-◌, ℕ, List, length, ap, subst, arith, product, run_place, coordinates_of, weighted, HaveRows, nat_tests}
use Rattle.vara_extents.proofs.RowLaws.{single}
use Rattle.vara_extents.proofs.WalkLaws.{inside, GoUp, steps_up}
use Rattle.vara_extents.proofs.walk.Runs.longest_row.Goals as goal

pub row_of_runs-runs-requires-clause-some : goal.row_of_runs-runs-requires-clause-some
row_of_runs-runs-requires-clause-some c = omega (arith, ap product c.as_slice.ensures, (inside c.args.self.now 0 c.requires.ready (omega (arith, c.if-self-lt2.false))).number)

pub row_of_runs-runs-requires-clause-small : goal.row_of_runs-runs-requires-clause-small
row_of_runs-runs-requires-clause-small c = omega (arith, ap product c.as_slice.ensures, (inside c.args.self.now 0 c.requires.ready (omega (arith, c.if-self-lt2.false))).small)

pub row_of_runs-runs-requires-clause-run : goal.row_of_runs-runs-requires-clause-run
row_of_runs-runs-requires-clause-run c = c.requires.ready.follow.some

steps : (c : goal.After-place-second) → GoUp c.args.self.now c.row_of_runs-runs.result
steps c =
    steps_up c.args.self.now c.row_of_runs-runs.result c.requires.ready (omega (arith, c.if-self-lt2.false)) (omega (arith, c.if-runs-lt2.false))
    (subst (λ (counts : List ℕ). (weights : List ℕ) → length weights ≡ length counts
    → HaveRows (λ k. weighted weights (coordinates_of counts k)) c.args.self.now.elements c.row_of_runs-runs.result (product counts)) c.as_slice.ensures c.row_of_runs-runs.ensures)

pub overflow_sub-result : goal.overflow_sub-result
overflow_sub-result c = omega (arith, (steps c).up, c.place-first.ensures.place, c.place-second.ensures.place)

pub returns-clause-rows : goal.returns-clause-rows
returns-clause-rows c = grind (arith, nat_tests, steps, c.place-second.ensures.place, c.place-first.ensures.place)

pub returns-then-self-lt2-clause-rows : goal.returns-then-self-lt2-clause-rows
returns-then-self-lt2-clause-rows c = single (run_place c.args.self.now) 0 c.args.self.now.count

pub returns-then-runs-lt2-clause-rows : goal.returns-then-runs-lt2-clause-rows
returns-then-runs-lt2-clause-rows c = single (run_place c.args.self.now) 0 c.args.self.now.count
