use Rattle.script_text.proofs.Words.{arith, nat_tests}
use Rattle.script_text.proofs.PrintingLaws.{all_at}
use Rattle.script_text.proofs.definitions.push_extras.Goals as goal

pub push_extra-requires : goal.push_extra-requires
push_extra-requires c = grind (arith, nat_tests, all_at, c.extra-item.is)
