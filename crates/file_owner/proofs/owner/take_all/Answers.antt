-- One more offer is taken.
use Rattle.file_owner.proofs.Words.{◌<◌, ◌∙◌, ◌++◌, sym, ap, length, get_or, arith, slice_get, option_to_list, batches_of, known_of, slice_get-get_or}
use Rattle.file_owner.proofs.HeldLaws.{batches_on, freed_at, freed_on, known_on}
use Rattle.file_owner.proofs.owner.take_all.Goals as goal

pub loop-client-preserved : goal.loop-client-preserved
loop-client-preserved c =
    let old = c.args.clients.now in
    let now = c.loop-client.clients in
    let i = c.loop-client.client-index in
    let client = get_or now i c.client-item.result in
    let long = c.loop-client.auto.clients in
    let test = c.loop-client-test.true in
    let within : i < length now = omega arith in
    let there = sym (freed_at old i) ∙ ap (λ ss. slice_get ss i) (sym c.loop-client.invariant.clients) ∙ slice_get-get_or now i c.client-item.result within in
    record {
      batches = batches_on old i client _ _ there c.loop-client.invariant.batches (c.in_ok-add_offer.ensures.batches ∙ ap (λ m. c.loop-client.batches.items ++ batches_of (option_to_list m)) c.take.ensures.taken);
      known = known_on old i client _ _ _ there c.loop-client.invariant.known (c.in_ok-add_offer.ensures.known ∙ ap (λ m. known_of (option_to_list m)) c.take.ensures.taken) c.max-known.ensures;
      clients = freed_on old now i client c.take.new.self there c.loop-client.invariant.clients c.take.ensures.freed;
    }
