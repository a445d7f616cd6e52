use Rattle.script_text.proofs.Words.{arith, nat_tests}
use Rattle.script_text.proofs.PrintingLaws.{all_at}
use Rattle.script_text.proofs.definitions.push_attrs.Goals as goal

pub push_attr-requires : goal.push_attr-requires
push_attr-requires c = grind (arith, nat_tests, all_at, c.attr-item.is)
