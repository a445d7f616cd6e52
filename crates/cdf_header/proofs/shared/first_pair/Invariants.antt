use Rattle.cdf_header.proofs.Words.{◌≡◌, drop, shared_pair}
use Rattle.cdf_header.proofs.shared.first_pair.Given as goal

abbrev pub invariant-loop-k : goal.invariant-loop-k
invariant-loop-k l = shared_pair l.size l.header_end (drop l.k l.spans) ≡ shared_pair l.size l.header_end l.spans
