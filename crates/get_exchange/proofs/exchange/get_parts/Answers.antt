-- The parts come back as they were read in turn.
use Rattle.get_exchange.proofs.Words.{◌≡◌, length, rules, arith, common_steps, came_back}
use Rattle.get_exchange.proofs.exchange.get_parts.Goals as goal

pub get_in_turn-end-requires-clause-domains : goal.get_in_turn-end-requires-clause-domains
get_in_turn-end-requires-clause-domains g c κs within = rw c.deref_mut.ensures.value c.requires.domains

pub returns : goal.returns
returns g c =
    let n : c.args.parts.len ≡ length c.args.parts.items = first_of (search rules, grind (arith, common_steps)) in
    let kept = came_back c.args.parts.len c.get_in_turn-end.new.parts c.deref_mut.result.now c.args.parts.items n c.deref_mut.ensures.value c.get_in_turn-end.auto.parts in
    record {
      got = rw kept (rw c.deref_mut.ensures.value at c.get_in_turn-end.ensures.got);
      read = rw c.deref_mut.ensures.value at c.get_in_turn-end.ensures.read;
      blobs = c.get_in_turn-end.ensures.blobs;
      failed = rw kept (rw c.deref_mut.ensures.value at c.get_in_turn-end.ensures.failed);
    }
