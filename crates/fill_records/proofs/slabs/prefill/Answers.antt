-- A variable more is filled.
use Rattle.fill_records.proofs.Words.{◌≡◌, ◌∙◌, ◌≤◌, length, arith, take_all, after, with_end, BothTold, IsBetween, filled_variable, variable_stores, on_err, calls_more, nat_tests}
use Rattle.fill_records.proofs.TornLaws.{variable_refused}
use Rattle.fill_records.proofs.VariableLaws.{known_at, filled_more, fill_stores_more}
use Rattle.fill_records.proofs.WindowLaws.{told_more, always_told}
use Rattle.fill_records.proofs.slabs.prefill.Goals as goal

pub loop-var-preserved : goal.loop-var-preserved
loop-var-preserved g c =
    let there : c.loop-var.var ≤ length c.args.header.now.vars = omega arith in
    let later = c.in_ok-fill_variable.ensures.cause.later in
    let before = c.loop-var.invariant.faults in
    let bytes = known_at (λ v. g.D.Disk.held c.fill_variable.new.disk ≡ after (filled_variable c.args.header.now v) (g.D.Disk.held c.loop-var.disk))
    c.args.header.now.vars c.loop-var.var (omega arith) c.in_ok-fill_variable.ensures.bytes in
    let calls = known_at (λ v. g.D.Disk.calls c.fill_variable.new.disk ≡ with_end (g.D.Disk.calls c.loop-var.disk) (variable_stores c.args.size c.args.header.now v))
    c.args.header.now.vars c.loop-var.var (omega arith) c.in_ok-fill_variable.ensures.calls in
    record {
      from = c.in_ok-fill_variable.ensures.from;
      len = c.in_ok-fill_variable.ensures.len ∙ c.loop-var.invariant.len;
      bytes = grind (arith, nat_tests, told_more, always_told, filled_more, c.loop-var.invariant.bytes);
      calls = calls_more _ _ _ _ _ _ (fill_stores_more c.args.size c.args.header.now c.loop-var.var calls.0 calls.1) c.loop-var.invariant.calls calls.2;
      faults = omega arith;
    }

pub returns-clause-bytes : goal.returns-clause-bytes
returns-clause-bytes g c = grind (arith, nat_tests, take_all, c.loop-var.invariant.bytes)

pub returns-in_err-fill_variable-clause-refused : goal.returns-in_err-fill_variable-clause-refused
returns-in_err-fill_variable-clause-refused g c =
    let left = known_at (λ v. BothTold (λ old left. IsBetween old (filled_variable c.args.header.now v old) left) (g.D.Disk.held c.loop-var.disk) (g.D.Disk.held c.fill_variable.new.disk))
    c.args.header.now.vars c.loop-var.var (omega arith) c.in_err-fill_variable.ensures.refused in
    on_err c.from_residual.result
    (variable_refused c.args.header.now (g.D.Disk.held c.args.disk.now) (g.D.Disk.held c.loop-var.disk) (g.D.Disk.held c.fill_variable.new.disk) c.loop-var.var (g.D.Disk.len c.args.disk.now)
    left.0 left.1 c.requires.sound (g.D.Disk.told c.args.disk.now) c.requires.long c.loop-var.invariant.bytes left.2)
