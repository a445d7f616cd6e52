-- So few digits have room.
use Rattle.script_words.proofs.Cited.{arith, get_or, sym, ◌∙◌, digit_bounds}
use Rattle.script_words.proofs.FrontLaws.{tens-few}
use Rattle.script_words.proofs.line_numbers.front_digits.Goals as goal

pub overflow_mul-value : goal.overflow_mul-value
overflow_mul-value c = omega (arith, tens-few c.loop-len.len (omega arith))

pub overflow_add-value : goal.overflow_add-value
overflow_add-value c = omega (arith, tens-few c.loop-len.len (omega arith), digit_bounds (get_or c.args.line.now c.loop-len.len 0) (sym c.is_digit.ensures ∙ c.if-is_digit.true))

pub returns-else-is_digit-clause-bound : goal.returns-else-is_digit-clause-bound
returns-else-is_digit-clause-bound c = omega (arith, tens-few c.loop-len.len (omega arith))

pub returns-after-loop-len-clause-bound : goal.returns-after-loop-len-clause-bound
returns-after-loop-len-clause-bound c = omega (arith, tens-few c.loop-len.len (omega arith))
