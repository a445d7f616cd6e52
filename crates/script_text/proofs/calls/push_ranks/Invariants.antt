use Rattle.script_text.proofs.Words.{◌≡◌, ◌++◌, take, enumerate_from, flat_map, shown_call}
use Rattle.script_text.proofs.calls.push_ranks.Given as goal

abbrev pub invariant-loop-rank : goal.invariant-loop-rank
invariant-loop-rank l = l.out.items ≡ l.initial.out.items ++ flat_map (λ p. flat_map (shown_call p.0) p.1) (take l.rank (enumerate_from 0 l.ranks))
