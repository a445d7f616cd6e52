use Rattle.redef_mover.proofs.Words.{List, sym, ap, Attr, has_attr, arith, nat_tests}
use Rattle.redef_mover.proofs.IndexLaws.{attrs_found, attrs_missing}
use Rattle.redef_mover.proofs.extra_faults.has_var_attr.Goals as goal

pub returns-in-Some : goal.returns-in-Some
returns-in-Some c = grind (arith, nat_tests, attrs_found, c.has_attr.ensures)

pub returns-in-None : goal.returns-in-None
returns-in-None c = ap (λ (l : List Attr). has_attr l c.args.name.now) (sym (attrs_missing c.args.header.now c.args.owner.now c.in-None.ensures))
