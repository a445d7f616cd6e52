use Rattle.script_words.proofs.Cited.{◌≡◌, ◌≤◌, ◌<◌, ◌-◌, take, true, list_all, tens, is_digit, digits_value}
use Rattle.script_words.proofs.line_numbers.front_digits.Given as goal

abbrev pub invariant-loop-len : goal.invariant-loop-len
invariant-loop-len l = record {
  value : l.value ≡ digits_value (take l.len l.line);
  digits : list_all is_digit (take l.len l.line) ≡ true;
  bound : l.value < tens l.len;
  most : l.len ≤ l.most;
}

abbrev pub decreases-loop-len : goal.decreases-loop-len
decreases-loop-len l = l.most - l.len
