use Rattle.std.proofs.Common.{◌≡◌, ◌≤◌, ◌+◌, ◌^◌, length}
use Rattle.script_spec.specs.ScriptValues.{each_value, pattern_for}
use Rattle.script_values.proofs.values.patterns_after.Given as goal

abbrev pub invariant-loop-word : goal.invariant-loop-word
invariant-loop-word l = record {
  read : each_value (pattern_for l.kind) l.kind l.before l.found l.words ≡ each_value (pattern_for l.kind) l.kind l.before l.fn.found l.fn.words;
  bound : l.before + length l.found ≤ 2 ^ 24;
}

abbrev pub decreases-loop-word : goal.decreases-loop-word
decreases-loop-word l = length l.words
