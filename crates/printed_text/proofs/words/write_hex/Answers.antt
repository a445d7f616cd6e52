-- The last digit of an odd number of them is written first.
use Rattle.printed_text.proofs.Cited.{arith, nat_tests}
use Rattle.printed_text.proofs.HexLaws.{odd_there}
use Rattle.printed_text.proofs.words.write_hex.Goals as goal

pub returns-else-digits-eq0-clause-written : goal.returns-else-digits-eq0-clause-written
returns-else-digits-eq0-clause-written c = grind (arith, nat_tests, odd_there, c.hex_digit.ensures, c.write_pairs-else-digits-eq0.ensures.written)
