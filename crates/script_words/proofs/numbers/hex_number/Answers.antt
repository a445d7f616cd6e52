use Rattle.script_words.proofs.Cited.{arith, common_steps}
use Rattle.script_words.proofs.NumberLaws.{sixteens-more, bad_digit}
use Rattle.script_words.proofs.numbers.hex_number.Goals as goal

pub overflow_mul-n : goal.overflow_mul-n
overflow_mul-n c = omega (arith, sixteens-more c.loop-digit.digit-index (omega arith))

pub overflow_add-n : goal.overflow_add-n
overflow_add-n c = omega (arith, sixteens-more c.loop-digit.digit-index (omega arith), c.in_ok-hex_value.ensures.bound, c.from.ensures)

pub returns-in_err-hex_value : goal.returns-in_err-hex_value
returns-in_err-hex_value c = grind (arith, common_steps, bad_digit)
