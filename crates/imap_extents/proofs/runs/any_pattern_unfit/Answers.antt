use Rattle.imap_extents.proofs.Cited.{◌+◌, ◌*◌, ◌^◌, ◌∙◌, ap, sym, not, ℕ, ◌%◌, fits, arith, nat_tests}
use Rattle.nc_base.specs.declared.request.Value.TheVariants as value
use Rattle.imap_extents.proofs.EndLaws.{hit_at}
use Rattle.imap_extents.proofs.RunLaws.{step_fits}
use Rattle.imap_extents.proofs.runs.any_pattern_unfit.Goals as goal

pub returns-then-is_unfit : goal.returns-then-is_unfit
returns-then-is_unfit c =
    let run = c.args.run in
    sym (hit_at (λ v. not (fits c.args.kind v)) (λ k. value.Bits ((run.first + run.step * k) % 2 ^ 64)) c.args.count c.loop-k.k c.loop-k-test.true
    (ap (λ (n : ℕ). not (fits c.args.kind (value.Bits n))) (sym c.at.ensures) ∙ sym c.is_unfit.ensures ∙ c.if-is_unfit.true))

pub loop-k-preserved : goal.loop-k-preserved
loop-k-preserved c = grind (arith, nat_tests, step_fits, fits, c.loop-k.invariant, c.at.ensures, c.is_unfit.ensures, c.if-is_unfit.false)
