-- What is left of the extents is this one, joined to those from the next run on.
use Rattle.vara_extents.proofs.Words.{◌≡◌, ◌+◌, ◌^◌, ◌≤◌, joined_to, extents_from, extents_left, IsRunOf}
use Rattle.vara_extents.proofs.walk.Extents.front.Given as goal

abbrev pub invariant-loop-number : goal.invariant-loop-number
invariant-loop-number l = record {
  left : extents_left l.self ≡ joined_to l.extent (extents_from l.self.runs l.next.number);
  low : l.extent.at + l.extent.len ≤ 2 ^ 62;
  placed : IsRunOf l.self.runs l.next;
  number : l.next.number ≡ l.number;
}
