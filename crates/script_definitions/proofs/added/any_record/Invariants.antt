use Rattle.script_definitions.proofs.Words.{◌≡◌, length, list_any, is_added_record}
use Rattle.script_definitions.proofs.added.any_record.Given as goal

abbrev pub invariant-loop-name : goal.invariant-loop-name
invariant-loop-name l = list_any (is_added_record l.dims) l.names ≡ list_any (is_added_record l.dims) l.fn.names

abbrev pub decreases-loop-name : goal.decreases-loop-name
decreases-loop-name l = length l.names
