-- The messages of one window were put.
use Rattle.put_exchange.proofs.Words.{◌≡◌, ◌∙◌, List, [], ◌∷◌, refl, get_or, length-set, slice_get, slice_get-get_or, Some, None, HasSent, Feed, HaveFed, Round, Worker, fewer_all, number_of, set_each, arith, nat_tests}
use Rattle.put_exchange.proofs.sending.send_all.Goals as goal

fed_twice : (a b c : Feed) → HaveFed a b → HaveFed b c → HaveFed a c
fed_twice a b c f h = record { of = h.of ∙ f.of; put = h.put ∙ f.put }

sent_next : {D : Type 0} (old worker new : Worker D) → HasSent old worker → new.helper ≡ worker.helper → HaveFed worker.feed new.feed → HasSent old new
sent_next old worker new s kept fed = record { helper = kept ∙ s.helper; fed = fed_twice old.feed worker.feed new.feed s.fed fed }

none_left : (rounds : List Round) → number_of (slice_get rounds 0) ≡ None → rounds ≡ []
none_left [] e = refl
none_left (r ∷ rounds) e = absurd cc

pub rounds-init : goal.rounds-init
rounds-init g c = grind (arith, nat_tests)

pub rounds-smaller : goal.rounds-smaller
rounds-smaller g c =
    let some = c.in-Some.ensures.some in
    let k = c.in-Some.k in
    let worker = get_or c.rounds.workers k c.index-workers-k.result in
    let own = slice_get-get_or c.rounds.workers k c.index-workers-k.result some.0 in
    fewer_all (λ (s : Worker g.row.D.Denot). s.feed.rounds.items) c.rounds.workers k worker (record { helper = worker.helper; feed = c.send_next.new.feed }) own
    (c.send_next.ensures.fewer (some.1 worker own))

pub rounds-preserved : goal.rounds-preserved
rounds-preserved g c =
    let some = c.in-Some.ensures.some in
    let k = c.in-Some.k in
    let worker = get_or c.rounds.workers k c.index-workers-k.result in
    let own = slice_get-get_or c.rounds.workers k c.index-workers-k.result some.0 in
    let new : Worker g.row.D.Denot = record { helper = worker.helper; feed = c.send_next.new.feed } in
    record {
      long = length-set c.rounds.workers k new ∙ c.rounds.invariant.long;
      sent = λ a old now first second.
          set_each (λ r (s : Worker g.row.D.Denot). (o : Worker g.row.D.Denot) → slice_get c.args.workers.now r ≡ Some o → HasSent o s) c.rounds.workers k worker new own
          (λ o e. sent_next o worker new (c.rounds.invariant.sent k o worker e own) refl c.send_next.ensures.fed)
          (λ r s e o h. c.rounds.invariant.sent r o s h e) a now second old first;
    }

pub returns-clause-fed : goal.returns-clause-fed
returns-clause-fed g c = λ a old new first now.
    let sent = c.rounds.invariant.sent a old new first now in
    record { helper = sent.helper; fed = sent.fed; none = none_left new.feed.rounds.items (c.in_default.ensures.none a new now) }
