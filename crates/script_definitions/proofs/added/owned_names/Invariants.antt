use Rattle.script_definitions.proofs.Words.{◌≡◌, ◌++◌, length}
use Rattle.script_definitions.proofs.added.owned_names.Given as goal

abbrev pub invariant-loop-name : goal.invariant-loop-name
invariant-loop-name l = l.list ++ l.names ≡ l.fn.names

abbrev pub decreases-loop-name : goal.decreases-loop-name
decreases-loop-name l = length l.names
