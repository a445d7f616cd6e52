-- The items so far.
use Rattle.run_plan.proofs.Words.{◌≡◌, take, map, item_without_values}
use Rattle.run_plan.proofs.ranks.items_without_values.Given as goal

abbrev pub invariant-loop-item : goal.invariant-loop-item
invariant-loop-item l = l.bare ≡ map item_without_values (take l.item-index l.items)
