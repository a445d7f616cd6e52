use Rattle.std.proofs.Common.{◌≡◌, fold, drop}
use Rattle.hint_table.specs.HintNames.{with_hint}
use Rattle.hint_table.proofs.set_each.Given as goal

abbrev pub invariant-loop-name : goal.invariant-loop-name
invariant-loop-name l = fold (with_hint l.ranks l.given) l.hints (drop l.name-index l.names) ≡ fold (with_hint l.ranks l.given) l.initial.hints l.names
