-- Each lender so far can go on.
use Rattle.get_exchange.proofs.Words.{AreReady}
use Rattle.get_exchange.proofs.buffers.Lending.add_lines.Given as goal

abbrev pub invariant-loop-domain : goal.invariant-loop-domain
invariant-loop-domain l = AreReady l.self.lenders.each.items
