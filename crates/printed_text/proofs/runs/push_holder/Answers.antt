use Rattle.printed_text.proofs.Cited.{then_append, arith, nat_tests}
use Rattle.printed_text.proofs.runs.push_holder.Goals as goal

pub returns : goal.returns
returns c = grind (arith, nat_tests, then_append, c.in_ok-push_numbered.ensures, c.in_ok-push_numbered-2.ensures)
