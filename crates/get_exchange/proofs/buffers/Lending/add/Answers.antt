-- One lender more.
use Rattle.get_exchange.proofs.Words.{IsReady}
use Rattle.get_exchange.proofs.LenderLaws.{each_pushed}
use Rattle.get_exchange.proofs.buffers.Lending.add.Goals as goal

pub returns : goal.returns
returns c = each_pushed (λ l. IsReady l) c.args.self.now.lenders.each.items _ _ c.in_ok-push.ensures.items c.requires.ready c.requires.lender
