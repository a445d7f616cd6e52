-- The buffer holds the longest hull.
use Rattle.put_exchange.proofs.Words.{ap, length, List, arith, all_kept}
use Rattle.put_exchange.proofs.PutLaws.{PutBy, put_kept}
use Rattle.put_exchange.proofs.in_turn.put_in_turn.Goals as goal

pub returns-in_err-buf-clause-put : goal.returns-in_err-buf-clause-put
returns-in_err-buf-clause-put g c =
    all_kept (PutBy g.D.Disk c.args.plan.now _) c.args.domains.now c.args.parts.now c.requires.domains.one_each (put_kept g.D.Disk c.args.plan.now _ c.from_residual.ensures.0)

pub put_parts-end-requires-clause-room : goal.put_parts-end-requires-clause-room
put_parts-end-requires-clause-room g c κs within = λ domain m.
    let lent = ap (λ (v : List _). length v) c.deref_mut.ensures.value in
    omega (arith, c.in_ok-buf.ensures domain m, lent)
