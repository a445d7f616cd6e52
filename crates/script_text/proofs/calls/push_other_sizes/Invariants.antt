use Rattle.script_text.proofs.Words.{◌≡◌, ◌∷◌, ◌++◌, map, take, decimal, flat_map}
use Rattle.script_text.proofs.calls.push_other_sizes.Given as goal

abbrev pub invariant-loop-size : goal.invariant-loop-size
invariant-loop-size l = l.out.items ≡ l.initial.out.items ++ flat_map (λ size. 44 ∷ size) (map decimal (take l.size-index l.sizes))
