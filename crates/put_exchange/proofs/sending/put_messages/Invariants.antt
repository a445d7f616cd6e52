-- The messages so far were put.
use Rattle.put_exchange.proofs.Words.{◌≡◌, ◌++◌}
use Rattle.put_exchange.proofs.sending.put_messages.Given as goal

abbrev pub invariant-loop-message : goal.invariant-loop-message
invariant-loop-message g l = record {
  all : l.yielded ++ l.message-iterator.rest.items ≡ l.fn.messages.items;
  of : l.line.of ≡ l.initial.line.of;
  put : l.line.items ≡ l.initial.line.items ++ l.yielded;
}
