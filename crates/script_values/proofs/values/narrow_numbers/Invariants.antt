use Rattle.std.proofs.Common.{◌≡◌, ◌≤◌, ◌+◌, ◌^◌, [], length}
use Rattle.script_spec.specs.ScriptValues.{each_value, number_for}
use Rattle.script_values.proofs.values.narrow_numbers.Given as goal

abbrev pub invariant-loop-number : goal.invariant-loop-number
invariant-loop-number l = record {
  read : each_value (number_for l.kind) l.kind l.before l.front.items l.words ≡ each_value (number_for l.kind) l.kind l.before [] l.fn.words;
  bound : l.before + length l.front.items ≤ 2 ^ 24;
}

abbrev pub decreases-loop-number : goal.decreases-loop-number
decreases-loop-number l = length l.words
