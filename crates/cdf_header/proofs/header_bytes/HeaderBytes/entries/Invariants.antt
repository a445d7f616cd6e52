use Rattle.cdf_header.proofs.Words.{◌≡◌, ◌-◌, each_at}
use Rattle.cdf_header.proofs.Loop.{with_front}
use Rattle.cdf_header.proofs.header_bytes.HeaderBytes.entries.Given as goal

abbrev pub invariant-loop : goal.invariant-loop
invariant-loop g l = with_front l.found (each_at (g.T.Entry.reading l.self.version l.self.bytes.now) (l.count - l.counter) l.at) ≡ each_at (g.T.Entry.reading l.self.version l.self.bytes.now) l.count l.fn.at
