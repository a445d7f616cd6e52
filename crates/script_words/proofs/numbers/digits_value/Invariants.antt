use Rattle.script_words.proofs.Cited.{◌≡◌, ◌<◌, take, tens, digits_value}
use Rattle.script_words.proofs.numbers.digits_value.Given as goal

abbrev pub invariant-loop-d : goal.invariant-loop-d
invariant-loop-d l = record { value : l.n ≡ digits_value (take l.d-index l.digits); bound : l.n < tens l.d-index }
