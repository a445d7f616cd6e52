use Rattle.script_definitions.proofs.Words.{◌≡◌, length, list_all, is_name}
use Rattle.script_definitions.proofs.vars.all_names.Given as goal

abbrev pub invariant-loop-part : goal.invariant-loop-part
invariant-loop-part l = list_all is_name l.parts ≡ list_all is_name l.fn.parts

abbrev pub decreases-loop-part : goal.decreases-loop-part
decreases-loop-part l = length l.parts
