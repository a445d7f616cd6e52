-- It holds the windows of the domains so far.
use Rattle.exchange_crew.proofs.Words.{◌≤◌, min, take, Extent, In}
use Rattle.exchange_crew.proofs.walk.longest_window.Given as goal

abbrev pub invariant-loop-domain : goal.invariant-loop-domain
invariant-loop-domain l = (d : Extent) → In (take l.domain-index l.domains) d → min l.size d.len ≤ l.longest
