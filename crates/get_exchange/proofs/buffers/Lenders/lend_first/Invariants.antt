-- Each lender can go on.
use Rattle.get_exchange.proofs.Words.{AreReady}
use Rattle.get_exchange.proofs.buffers.Lenders.lend_first.Given as goal

abbrev pub invariant-loop-blob : goal.invariant-loop-blob
invariant-loop-blob g l = AreReady l.self.each.items
