-- The messages so far were taken.
use Rattle.put_exchange.proofs.Words.{◌≡◌, ◌-◌, ◌≤◌, HasTaken}
use Rattle.put_exchange.proofs.laying.drop_messages.Given as goal

abbrev pub invariant-messages : goal.invariant-messages
invariant-messages g l = record {
  some : l.left ≤ l.count;
  of : l.line.of ≡ l.initial.line.of;
  taken : HasTaken (l.count - l.left) l.initial.line.items l.line.items;
}

abbrev pub decreases-messages : goal.decreases-messages
decreases-messages g l = l.left
