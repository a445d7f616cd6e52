use Rattle.printed_text.proofs.Cited.{◌≡◌, ◌++◌, take, enumerate_from, flat_map, zip, rank_lines}
use Rattle.printed_text.proofs.runs.push_ranks.Given as goal

abbrev pub invariant-loop-rank : goal.invariant-loop-rank
invariant-loop-rank l = l.out.items ≡ l.initial.out.items ++ flat_map (rank_lines l.fn.names) (take l.rank (enumerate_from 0 (zip (zip l.calls l.answers) l.pending)))
