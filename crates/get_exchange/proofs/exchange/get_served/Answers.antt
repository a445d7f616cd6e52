-- The parts that helpers took are the first ones, and come back read.
use Rattle.get_exchange.proofs.Words.{◌≡◌, List, ap, subst, length, vec_capacity, Some, rules, arith, common_steps, slice_get, zip_weaker, OnOk, Rose, at_in, HaveTakenTurns, IsKept, domain_of, part_of, ReadWorker, and_first_ok, all_served, have_served, lent_kept, some_served}
use Rattle.get_exchange.proofs.FetchLaws.{GotBy, got_later}
use Rattle.get_exchange.proofs.PartReads.{all_read, and_memory, kept_same}
use Rattle.get_exchange.proofs.TakeLaws.{kept_workers}
use Rattle.get_exchange.proofs.exchange.get_served.Goals as goal

pub take_all-came-requires-clause-ready : goal.take_all-came-requires-clause-ready
take_all-came-requires-clause-ready g c κs within =
    let first = c.hand_all.new.shares.workers.items in
    λ k worker e.
    (_, (c.hand_all.ensures.handed.workers worker (at_in first k worker (subst (λ (ws : List (ReadWorker g.row.D.Denot)). slice_get ws k ≡ Some worker) c.deref_mut.ensures.value e))).ready)

pub take_back-end-requires-clause-workers : goal.take_back-end-requires-clause-workers
take_back-end-requires-clause-workers g c κs within =
    let n : c.hand_all.new.shares.workers.len ≡ length c.hand_all.new.shares.workers.items = first_of (search rules, grind (arith, common_steps)) in
    kept_workers c.args.plan.now (lent_kept IsKept c.hand_all.new.shares.workers.len c.hand_all.new.shares.workers.items c.deref_mut.result.now c.take_all-came.new.workers c.deref_mut.ensures.value n c.take_all-came.ensures.long c.take_all-came.ensures.kept) c.hand_all.ensures.handed.workers

pub returns : goal.returns
returns g c =
    let n : c.hand_all.new.shares.workers.len ≡ length c.hand_all.new.shares.workers.items = first_of (search rules, grind (arith, common_steps)) in
    let kept = lent_kept IsKept c.hand_all.new.shares.workers.len c.hand_all.new.shares.workers.items c.deref_mut.result.now c.take_all-came.new.workers c.deref_mut.ensures.value n c.take_all-came.ensures.long c.take_all-came.ensures.kept in
    let served = have_served (λ worker. part_of worker) (λ worker. domain_of worker) IsKept c.hand_all.new.shares.rest.items c.take_back-end.new.back.items c.args.parts.items c.args.domains.now kept kept_same
    c.hand_all.ensures.handed.of_parts c.hand_all.ensures.handed.of_domains c.take_back-end.ensures.long in
    let plan = c.args.plan.now in
    let last = c.take_all-came.new.workers in
    record {
      first = record {
        rest = served.behind;
        few = served.few;
        room = omega (arith, c.requires.rooms.for_back, ap (λ back. vec_capacity back) c.hand_all.ensures.back, c.take_back-end.ensures.room);
      };
      got =
          zip_weaker _ (GotBy g.D.Disk plan c.and.result) _ _ (λ p d h. got_later g.D.Disk plan c.take_back-end.result c.and.result p d (and_first_ok _ _ _ c.and.ensures) h)
          (all_served (λ worker. part_of worker) (λ worker. domain_of worker) (GotBy g.D.Disk plan c.take_back-end.result) kept served c.take_back-end.ensures.got);
      read =
          let taken = subst (λ (ws : List (ReadWorker g.row.D.Denot)). OnOk c.take_all-came.result (HaveTakenTurns plan.list.now ws last c.args.table.now c.take_all-came.new.table)) c.deref_mut.ensures.value
          c.take_all-came.ensures.taken in
          all_read (λ d. g.D.Disk.from d) (λ d. g.D.Disk.held d) plan kept c.hand_all.ensures.handed.workers c.take_all-came.ensures.none c.args.table.now c.take_all-came.new.table _ _ c.and.result c.and.ensures served taken
          c.take_back-end.ensures.read;
      blobs = c.take_all-came.ensures.blobs;
      failed = λ f. some_served (λ worker. part_of worker) (λ worker. domain_of worker) (λ a b. Rose (g.D.Disk.faults a) (g.D.Disk.faults b)) kept served
          (c.take_back-end.ensures.failed (and_memory _ _ _ c.and.ensures c.take_all-came.ensures.memory f));
    }
