use Rattle.printed_text.proofs.HexLaws.{PAIRS_at}
use Rattle.printed_text.proofs.Cited.{arith, nat_tests}
use Rattle.printed_text.proofs.words.write_pair.Goals as goal

pub returns : goal.returns
returns c = grind (arith, nat_tests, PAIRS_at, c.from-from.ensures)
