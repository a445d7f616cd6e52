use Rattle.printed_text.proofs.Cited.{unwrap_or, arith, nat_tests}
use Rattle.printed_text.proofs.DigitLaws.{digits_named}
use Rattle.printed_text.proofs.digits.NameDigits.of_name.Goals as goal

pub returns : goal.returns
returns c =
    grind (arith, nat_tests, digits_named c.self.inside.header.now c.args.name.now, c.unwrap_or.ensures, c.copied.ensures, c.get.ensures.value, c.self.invariant)
