-- The parts come back as they were served in turn.
use Rattle.put_exchange.proofs.Words.{◌≡◌, length, rules, arith, common_steps, came_back}
use Rattle.put_exchange.proofs.exchange.exchange_put.Goals as goal

pub put_in_turn-end-requires-clause-domains : goal.put_in_turn-end-requires-clause-domains
put_in_turn-end-requires-clause-domains g c κs within = rw c.deref_mut.ensures.value (record { one_each = c.requires.one_each; each = c.requires.domains })

pub returns : goal.returns
returns g c =
    let n : c.args.parts.len ≡ length c.args.parts.items = first_of (search rules, grind (arith, common_steps)) in
    let kept = came_back c.args.parts.len c.put_in_turn-end.new.parts c.deref_mut.result.now c.args.parts.items n c.deref_mut.ensures.value c.put_in_turn-end.auto.parts in
    record {
      put = rw kept (rw c.deref_mut.ensures.value at c.put_in_turn-end.ensures.put);
      failed = rw kept (rw c.deref_mut.ensures.value at c.put_in_turn-end.ensures.failed);
    }
