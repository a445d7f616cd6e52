use Rattle.std.proofs.Common.{◌≡◌, length, map}
use Rattle.script_spec.specs.ScriptWords.{all_some, size_of_text}
use Rattle.script_values.proofs.FoundLaws.{with_found}
use Rattle.script_values.proofs.regions.sizes_in.Given as goal

abbrev pub invariant-loop-part : goal.invariant-loop-part
invariant-loop-part l = with_found l.sizes (all_some (map size_of_text l.parts)) ≡ all_some (map size_of_text l.fn.parts)

abbrev pub decreases-loop-part : goal.decreases-loop-part
decreases-loop-part l = length l.parts
