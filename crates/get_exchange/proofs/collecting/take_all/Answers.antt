-- One window of one helper was taken.
use Rattle.get_exchange.proofs.Words.{◌≡◌, ◌∙◌, refl, sym, subst, set, Some, Result, get_or, length-set, slice_get-get_or, slice_get, IfErr, OnOk, StepErr, Memory, HaveTakenTurns, IsKept, IsShelfIn, turns_due, ReadWorker, fewer_all, set_each, arith, nat_tests}
use Rattle.get_exchange.proofs.CollectLaws.{fit_as_long}
use Rattle.get_exchange.proofs.ShelfLaws.{none_due, some_due}
use Rattle.get_exchange.proofs.TakeLaws.{both_memory, kept_more, kept_none, taken_none, taken_on}
use Rattle.get_exchange.proofs.collecting.take_all.Goals as goal

pub rounds-init : goal.rounds-init
rounds-init g c = grind (arith, nat_tests, kept_none, taken_none, c.requires.ready, c.requires.lenders)

pub take_turn-came-requires-clause-ready : goal.take_turn-came-requires-clause-ready
take_turn-came-requires-clause-ready g c =
    let k = c.in-Some.k in
    c.rounds.invariant.ready k (get_or c.rounds.workers k c.index-workers-k.result) (slice_get-get_or c.rounds.workers k c.index-workers-k.result c.in-Some.ensures.some.0)

pub take_turn-came-requires-clause-fit : goal.take_turn-came-requires-clause-fit
take_turn-came-requires-clause-fit g c = fit_as_long c.args.table.now c.rounds.table c.args.plan.now.list.now c.rounds.invariant.blobs c.requires.fit

pub rounds-smaller : goal.rounds-smaller
rounds-smaller g c =
    let some = c.in-Some.ensures.some in
    let k = c.in-Some.k in
    let worker = get_or c.rounds.workers k c.index-workers-k.result in
    let own = slice_get-get_or c.rounds.workers k c.index-workers-k.result some.0 in
    fewer_all (λ (s : ReadWorker g.row.D.Denot). turns_due s.shelf) c.rounds.workers k worker (record { helper = worker.helper; shelf = c.take_turn-came.new.shelf }) own
    (c.take_turn-came.ensures.fewer (some_due worker.shelf.next worker.shelf.walk.windows (some.1 worker own)))

pub rounds-preserved : goal.rounds-preserved
rounds-preserved g c =
    let some = c.in-Some.ensures.some in
    let k = c.in-Some.k in
    let worker = get_or c.rounds.workers k c.index-workers-k.result in
    let own = slice_get-get_or c.rounds.workers k c.index-workers-k.result some.0 in
    let new : ReadWorker g.row.D.Denot = record { helper = worker.helper; shelf = c.take_turn-came.new.shelf } in
    let list = c.args.plan.now.list.now in
    record {
      long = length-set c.rounds.workers k new ∙ c.rounds.invariant.long;
      ready = set_each (λ r (s : ReadWorker g.row.D.Denot). IsShelfIn list s.shelf) c.rounds.workers k worker new own c.take_turn-came.ensures.ready c.rounds.invariant.ready;
      kept = λ a old now first second.
          set_each (λ r (s : ReadWorker g.row.D.Denot). (o : ReadWorker g.row.D.Denot) → slice_get c.args.workers.now r ≡ Some o → IsKept o s) c.rounds.workers k worker new own
          (λ o e. kept_more o worker new (c.rounds.invariant.kept k o worker e own) refl c.take_turn-came.ensures.of)
          (λ r s e o h. c.rounds.invariant.kept r o s h e) a now second old first;
      blobs = c.take_turn-came.ensures.blobs ∙ c.rounds.invariant.blobs;
      taken = subst (λ (r : Result (Unit {0}) StepErr). OnOk r (HaveTakenTurns list c.args.workers.now (set c.rounds.workers k new) c.args.table.now c.take_turn-came.new.table)) (sym c.and-end.ensures)
          (taken_on list c.args.workers.now c.rounds.workers k worker new c.args.table.now c.rounds.table c.take_turn-came.new.table c.rounds.end c.take_turn-came.result.0
          c.rounds.invariant.long own c.rounds.invariant.taken c.take_turn-came.ensures.taken);
      lenders = c.hand_on.ensures;
      memory = subst (λ (r : Result (Unit {0}) StepErr). IfErr r (λ e. e ≡ Memory)) (sym c.and-end.ensures) (both_memory c.rounds.end c.take_turn-came.result.0 c.rounds.invariant.memory c.take_turn-came.ensures.memory);
    }

pub returns-clause-none : goal.returns-clause-none
returns-clause-none g c = λ k worker e. none_due worker.shelf.next worker.shelf.walk.windows (c.in_default.ensures.none k worker e)
