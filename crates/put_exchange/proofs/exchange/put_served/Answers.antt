-- The parts that helpers took are the first ones, and come back served.
use Rattle.put_exchange.proofs.Words.{◌≡◌, ap, length, vec_capacity, rules, arith, common_steps, Rose, domain_of, part_of, HasFed, all_served, have_served, lent_kept, some_served}
use Rattle.put_exchange.proofs.PutLaws.{PutBy}
use Rattle.put_exchange.proofs.WorkerLaws.{fed_same, fed_workers}
use Rattle.put_exchange.proofs.exchange.put_served.Goals as goal

pub take_back-end-requires-clause-workers : goal.take_back-end-requires-clause-workers
take_back-end-requires-clause-workers g c κs within =
    let n : c.hand_all.new.shares.workers.len ≡ length c.hand_all.new.shares.workers.items = first_of (search rules, grind (arith, common_steps)) in
    fed_workers g.D.Disk c.args.plan.now (lent_kept HasFed c.hand_all.new.shares.workers.len c.hand_all.new.shares.workers.items c.deref_mut.result.now c.send_all.new.workers c.deref_mut.ensures.value n c.send_all.ensures.long c.send_all.ensures.fed) c.hand_all.ensures.handed.workers

pub returns : goal.returns
returns g c =
    let n : c.hand_all.new.shares.workers.len ≡ length c.hand_all.new.shares.workers.items = first_of (search rules, grind (arith, common_steps)) in
    let kept = lent_kept HasFed c.hand_all.new.shares.workers.len c.hand_all.new.shares.workers.items c.deref_mut.result.now c.send_all.new.workers c.deref_mut.ensures.value n c.send_all.ensures.long c.send_all.ensures.fed in
    let served = have_served (λ worker. part_of worker) (λ worker. domain_of worker) HasFed c.hand_all.new.shares.rest.items c.take_back-end.new.back.items c.args.parts.items c.args.domains.now kept fed_same
    c.hand_all.ensures.handed.of_parts c.hand_all.ensures.handed.of_domains c.take_back-end.ensures.long in
    record {
      first = record {
        rest = served.behind;
        few = served.few;
        room = omega (arith, c.requires.rooms.for_back, ap (λ back. vec_capacity back) c.hand_all.ensures.back, c.take_back-end.ensures.room);
      };
      put = all_served (λ worker. part_of worker) (λ worker. domain_of worker) (PutBy g.D.Disk c.args.plan.now c.take_back-end.result) kept served c.take_back-end.ensures.put;
      failed = λ f. some_served (λ worker. part_of worker) (λ worker. domain_of worker) (λ a b. Rose (g.D.Disk.faults a) (g.D.Disk.faults b)) kept served (c.take_back-end.ensures.failed f);
    }
