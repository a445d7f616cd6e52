-- Those passed end at the place or are carried.
use Rattle.aggregator_rounds.proofs.Words.{◌⊎◌, ◌+◌, ◌<◌, length, Owned, In, entries_left, IsPast}
use Rattle.aggregator_rounds.proofs.unserved.Unserved.pass.Given as goal

abbrev pub invariant-ahead : goal.invariant-ahead
invariant-ahead l = record {
  past : IsPast l.stop (entries_left l.fn.self) (entries_left l.self);
  carried : (o : Owned) → In l.self.carried.items o → (In l.fn.self.carried.items o ⊎ (o.extent.at < l.stop)) × (l.stop < o.extent.at + o.extent.len);
}

abbrev pub decreases-ahead : goal.decreases-ahead
decreases-ahead l = length l.self.ahead.now
