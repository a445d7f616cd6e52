use Rattle.var_layout.proofs.Words.{arith, variable, nat_tests}
use Rattle.var_layout.proofs.WrittenLengths.{list_whole}
use Rattle.var_layout.proofs.written.vars_len.Goals as goal

pub returns : goal.returns
returns c =
    grind (arith, nat_tests, list_whole c.args.header.now.version 11 (variable c.args.header.now) c.args.header.now.vars, c.as_slice-var-items.ensures, c.loop-var.invariant)
