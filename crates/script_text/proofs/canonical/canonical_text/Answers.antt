-- What is printed is read as the script that was read.
use Rattle.script_text.proofs.Words.{arith, nat_tests}
use Rattle.script_laws.proofs.LawfulLaws.{read_whole}
use Rattle.script_text.proofs.Whole.{shown_again}
use Rattle.script_text.proofs.canonical.canonical_text.Goals as goal

pub print_script-requires : goal.print_script-requires
print_script-requires c = read_whole c.args.text.now c.in_ok-script.script c.in_ok-script.ensures.read

pub returns-in-Ok-clause-again : goal.returns-in-Ok-clause-again
returns-in-Ok-clause-again c = grind (arith, nat_tests, shown_again, c.in-Ok.ensures)
