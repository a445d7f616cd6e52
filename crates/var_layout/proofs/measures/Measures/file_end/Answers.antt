use Rattle.var_layout.proofs.Words.{arith, AreMeasures, nat_tests}
use Rattle.var_layout.proofs.EndLaws.{capped_end_after}
use Rattle.var_layout.proofs.measures.Measures.file_end.Goals as goal

pub returns-then-records-eq0 : goal.returns-then-records-eq0
unfolding AreMeasures
returns-then-records-eq0 c = grind (arith, nat_tests, c.requires.measured.1, c.if-records-eq0.true)

pub returns : goal.returns
unfolding AreMeasures
returns c =
    let m = c.args.self.now in
    grind (arith, nat_tests, capped_end_after, c.if-records-eq0.false, c.max.ensures, c.requires.measured.0, c.requires.measured.1, c.requires.measured.2, c.product-later.ensures, c.sum.ensures)
