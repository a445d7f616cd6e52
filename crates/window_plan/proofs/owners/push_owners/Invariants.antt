-- The owners by the entries so far.
use Rattle.window_plan.proofs.Words.{◌≡◌, ◌++◌, take, owners_in}
use Rattle.window_plan.proofs.owners.push_owners.Given as goal

abbrev pub invariant-loop-entry : goal.invariant-loop-entry
invariant-loop-entry l = l.owners.items ≡ l.initial.owners.items ++ owners_in l.hull (take l.entry-index l.entries)
