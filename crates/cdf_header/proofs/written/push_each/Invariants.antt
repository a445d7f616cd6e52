use Rattle.cdf_header.proofs.Words.{◌≡◌, ◌++◌, take, flat_map}
use Rattle.cdf_header.proofs.written.push_each.Given as goal

abbrev pub invariant-loop-entry : goal.invariant-loop-entry
invariant-loop-entry g l = l.out.items ≡ l.initial.out.items ++ flat_map (g.T.Written.bytes_of l.header) (take l.entry-index l.entries)
