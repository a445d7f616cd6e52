use Rattle.script_words.proofs.Cited.{◌≡◌, ◌<◌, drop, fold, Some, sixteens, hex_sum}
use Rattle.script_words.proofs.numbers.hex_number.Given as goal

abbrev pub invariant-loop-digit : goal.invariant-loop-digit
invariant-loop-digit l = record {
  value : fold hex_sum (Some l.n) (drop l.digit-index l.digits) ≡ fold hex_sum (Some 0) l.digits;
  bound : l.n < sixteens l.digit-index;
}
