use Rattle.printed_text.proofs.Cited.{arith, nat_tests}
use Rattle.printed_text.proofs.HexLaws.{pattern_there}
use Rattle.printed_text.proofs.words.write_pattern.Goals as goal

pub returns-clause-written : goal.returns-clause-written
returns-clause-written c = grind (arith, nat_tests, pattern_there, c.requires, c.write_hex.ensures.written)
