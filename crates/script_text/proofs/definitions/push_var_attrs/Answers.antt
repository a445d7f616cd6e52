use Rattle.script_text.proofs.Words.{arith, nat_tests}
use Rattle.script_text.proofs.PrintingLaws.{all_at}
use Rattle.script_text.proofs.definitions.push_var_attrs.Goals as goal

pub push_attrs-requires : goal.push_attrs-requires
push_attrs-requires c = grind (arith, nat_tests, all_at, c.as_slice-in-loop-var.ensures, c.var-item.is, c.requires)
