use Rattle.script_words.proofs.Cited.{◌≡◌, ◌≤◌, ◌+◌, ◌*◌, ◌-◌, arith, get_or, take, add-one, tens-fits, digits_value}
use Rattle.script_words.proofs.NumberLaws.{digit_at, value_more}
use Rattle.script_words.proofs.numbers.digits_value.Goals as goal

pub overflow_mul-n : goal.overflow_mul-n
overflow_mul-n c = omega (arith, tens-fits c.loop-d.d-index (omega arith))

pub overflow_add-n : goal.overflow_add-n
overflow_add-n c = omega (arith, tens-fits c.loop-d.d-index (omega arith), digit_at c.args.digits.now c.loop-d.d-index 0 c.requires.digits (omega arith))

pub loop-d-preserved : goal.loop-d-preserved
loop-d-preserved c =
    let at : (48 ≤ get_or c.args.digits.now c.loop-d.d-index 0) × (get_or c.args.digits.now c.loop-d.d-index 0 ≤ 57) = digit_at c.args.digits.now c.loop-d.d-index 0 c.requires.digits (omega arith) in
    let more : digits_value (take (c.loop-d.d-index + 1) c.args.digits.now) ≡ 10 * digits_value (take c.loop-d.d-index c.args.digits.now) + (get_or c.args.digits.now c.loop-d.d-index 0 - 48) = value_more c.args.digits.now c.loop-d.d-index 0 (omega arith) in
    record { value = cc; bound = rw add-one (omega arith) }

pub returns-clause-bound : goal.returns-clause-bound
returns-clause-bound c = omega (arith, tens-fits c.loop-d.d-index (omega arith))
