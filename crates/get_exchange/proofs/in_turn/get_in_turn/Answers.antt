-- The buffer holds the longest hull.
use Rattle.get_exchange.proofs.Words.{List, ap, length, arith, all_kept}
use Rattle.get_exchange.proofs.PartReads.{got_kept}
use Rattle.get_exchange.proofs.FetchLaws.{GotBy}
use Rattle.get_exchange.proofs.in_turn.get_in_turn.Goals as goal

pub returns-in_err-buf-clause-got : goal.returns-in_err-buf-clause-got
returns-in_err-buf-clause-got g c =
    all_kept (GotBy g.D.Disk c.args.plan.now _) c.args.domains.now c.args.parts.now c.requires.domains.one_each (got_kept g.D.Disk c.args.plan.now _ c.from_residual.ensures.0)

pub read_parts-end-requires-clause-room : goal.read_parts-end-requires-clause-room
read_parts-end-requires-clause-room g c κs within = λ domain m.
    let lent = ap (λ (v : List _). length v) c.deref_mut.ensures.value in
    omega (arith, c.in_ok-buf.ensures domain m, lent)
