-- The messages so far were laid.
use Rattle.put_exchange.proofs.Words.{◌≡◌, ◌-◌, ◌≤◌, length, HasLaid}
use Rattle.put_exchange.proofs.laying.take_messages.Given as goal

abbrev pub invariant-messages : goal.invariant-messages
invariant-messages g l = record {
  some : l.left ≤ l.count;
  of : l.line.of ≡ l.initial.line.of;
  laid : HasLaid l.hull (l.count - l.left) l.initial.line.items l.line.items l.initial.buf l.buf;
  long : length l.buf ≡ length l.initial.buf;
}

abbrev pub decreases-messages : goal.decreases-messages
decreases-messages g l = l.left
