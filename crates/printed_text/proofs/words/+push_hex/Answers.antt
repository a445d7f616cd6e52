use Rattle.printed_text.proofs.Cited.{◌-◌, arith, nat_tests}
use Rattle.std.proofs.Common.{append_assoc}
use Rattle.printed_text.proofs.WordLaws.{hex_last}
use Rattle.printed_text.proofs.words.+push_hex.Goals as goal

pub returns : goal.returns
returns t c = grind (arith, nat_tests, append_assoc, hex_last, c.in_ok-push_hex.ensures, c.hex_digit.ensures)
