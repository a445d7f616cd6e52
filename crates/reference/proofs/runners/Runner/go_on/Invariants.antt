-- The rank has come here by calls that it answers alone.
use Rattle.reference.proofs.Words.{◌≡◌, length, None, going_of}
use Rattle.reference.proofs.RunnerLaws.{Comes}
use Rattle.reference.proofs.runners.Runner.go_on.Given as goal

abbrev pub invariant-calls : goal.invariant-calls
invariant-calls l = record {
  of_header : l.self.rank.header ≡ l.initial.self.rank.header;
  free : l.self.held ≡ None;
  come : Comes l.initial.self.rank.header (going_of l.initial.self) (going_of l.self);
}

abbrev pub decreases-calls : goal.decreases-calls
decreases-calls l = length l.self.calls.now
