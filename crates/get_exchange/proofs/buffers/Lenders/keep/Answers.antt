-- Those of the first can go on.
use Rattle.get_exchange.proofs.Words.{subst, sym, List, AreReady, IsReady, Lender}
use Rattle.get_exchange.proofs.LenderLaws.{each_taken}
use Rattle.get_exchange.proofs.buffers.Lenders.keep.Goals as goal

pub returns : goal.returns
returns c = subst (λ (ls : List Lender). AreReady ls) (sym c.truncate.ensures.items) (each_taken (λ l. IsReady l) c.args.count c.args.self.now.each.items c.requires)
