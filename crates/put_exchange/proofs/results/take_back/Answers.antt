-- One part more came back.
use Rattle.put_exchange.proofs.Words.{◌≡◌, rules, arith, common_steps, domain_of, part_of, coming_next, coming_none, coming_worker}
use Rattle.put_exchange.proofs.PutLaws.{put_later}
use Rattle.put_exchange.proofs.results.take_back.Goals as goal

pub loop-worker-init : goal.loop-worker-init
loop-worker-init g c = coming_none _ _ c.args.workers.items _ c.args.back.now (tt {0}) (first_of (search rules, grind (arith, common_steps))) c.requires.none

pub take_one-part-requires-clause-worker : goal.take_one-part-requires-clause-worker
take_one-part-requires-clause-worker g c κs within = c.requires.workers c.in-Some.worker (coming_worker c.loop-worker.invariant c.in-Some.ensures.steps.0)

pub loop-worker-preserved : goal.loop-worker-preserved
loop-worker-preserved g c =
    coming_next c.loop-worker.invariant c.in-Some.ensures.steps.0 _ c.take_one-part.result.0 c.take_one-part.result.1 c.and-end.result
    (λ r q s d ok h. put_later g.D.Disk c.args.plan.now r q (part_of s, domain_of s) d ok h) c.and-end.ensures c.push_reserved.ensures.items c.push_reserved.ensures.capacity c.take_one-part.ensures.put c.take_one-part.ensures.failed

pub returns : goal.returns
returns g c =
    let s = c.loop-worker.invariant in
    let whole : c.loop-worker.yielded ≡ c.args.workers.items = first_of (search (rules, s.all), grind (arith, common_steps)) in
    record { room = s.room; long = rw whole at s.back.long; put = rw whole at s.back.done; failed = rw whole at s.back.failed }
