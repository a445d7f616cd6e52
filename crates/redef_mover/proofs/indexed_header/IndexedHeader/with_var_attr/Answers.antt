use Rattle.redef_mover.proofs.Words.{sym, bytes_eq, position_below, Var, arith, nat_tests}
use Rattle.redef_mover.proofs.IndexLaws.{attr_nowhere, attr_there}
use Rattle.redef_mover.proofs.indexed_header.IndexedHeader.with_var_attr.Goals as goal

pub returns-in-None : goal.returns-in-None
returns-in-None c = grind (arith, nat_tests, attr_nowhere)

pub with_attr_at-requires : goal.with_attr_at-requires
with_attr_at-requires c = position_below (λ (v : Var). bytes_eq v.name c.args.owner.now) c.args.self.vars c.in-Some.place (sym c.in-Some.ensures)

pub returns-in-Some : goal.returns-in-Some
returns-in-Some c = grind (arith, nat_tests, attr_there, c.with_attr_at.ensures)
