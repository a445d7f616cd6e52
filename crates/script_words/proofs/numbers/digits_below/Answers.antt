use Rattle.script_words.proofs.Cited.{◌≡◌, ◌≤◌, ◌+◌, ◌*◌, ◌-◌, arith, get_or, take, digits_value}
use Rattle.script_words.proofs.NumberLaws.{digit_at, value_more}
use Rattle.script_words.proofs.numbers.digits_below.Goals as goal

pub loop-d-preserved : goal.loop-d-preserved
loop-d-preserved c =
    let at : (48 ≤ get_or c.args.digits.now c.loop-d.d-index 0) × (get_or c.args.digits.now c.loop-d.d-index 0 ≤ 57) = digit_at c.args.digits.now c.loop-d.d-index 0 c.requires.digits (omega arith) in
    let more : digits_value (take (c.loop-d.d-index + 1) c.args.digits.now) ≡ 10 * digits_value (take c.loop-d.d-index c.args.digits.now) + (get_or c.args.digits.now c.loop-d.d-index 0 - 48) = value_more c.args.digits.now c.loop-d.d-index 0 (omega arith) in
    omega arith
