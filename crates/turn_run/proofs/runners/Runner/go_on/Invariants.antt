-- The rank is on its way, and its next offer is the same as it was.
use Rattle.turn_run.proofs.Words.{◌≡◌, ◌-◌, ◌≤◌, length, List, None, Mark, advance, IsOnWay, between}
use Rattle.turn_run.proofs.runners.Runner.go_on.Given as goal

abbrev pub invariant-calls : goal.invariant-calls
invariant-calls g l = record {
  of_header : l.self.rank.header ≡ l.header;
  free : l.self.held ≡ None;
  more : length l.initial.self.answers ≤ length l.self.answers;
  known : l.self.rank.state.known ≡ l.initial.self.rank.state.known;
  way : (order : List Mark) × IsOnWay l.script order l.number (between l.calls l.self) None;
  kept : (order : List Mark) → IsOnWay l.script order l.number (between l.calls l.initial.self) None → IsOnWay l.script order l.number (between l.calls l.self) None;
  advanced : advance l.header (between l.calls l.initial.self) ≡ advance l.header (between l.calls l.self);
}

abbrev pub decreases-calls : goal.decreases-calls
decreases-calls g l = length l.calls - length l.self.answers
