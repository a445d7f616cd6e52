use Rattle.script_words.proofs.Cited.{◌≡◌, take, min, digits_value}
use Rattle.script_words.proofs.numbers.digits_below.Given as goal

abbrev pub invariant-loop-d : goal.invariant-loop-d
invariant-loop-d l = l.n ≡ min (digits_value (take l.d-index l.digits)) l.limit
