use Rattle.std.proofs.Common.{◌≡◌, []}
use Rattle.script_spec.specs.ScriptCalls.{part_list}
use Rattle.script_values.proofs.regions.part_list.Given as goal

abbrev pub invariant-loop-left : goal.invariant-loop-left
invariant-loop-left l = part_list l.left l.parts l.words ≡ part_list l.n [] l.fn.words

abbrev pub decreases-loop-left : goal.decreases-loop-left
decreases-loop-left l = l.left
