-- One helper more was joined.
use Rattle.get_exchange.proofs.Words.{◌≡◌, rules, arith, common_steps, domain_of, part_of, coming_next, coming_none, coming_worker, each_joined}
use Rattle.get_exchange.proofs.FetchLaws.{got_later}
use Rattle.get_exchange.proofs.PartReads.{WasRead}
use Rattle.get_exchange.proofs.results.take_back.Goals as goal

pub loop-worker-init : goal.loop-worker-init
loop-worker-init g c = record { coming = coming_none _ _ c.args.workers.items _ c.args.back.now (tt {0}) (first_of (search rules, grind (arith, common_steps))) c.requires.none; read = λ worker m. absurd m }

pub take_one-part-requires-after_bounds : goal.take_one-part-requires-after_bounds
take_one-part-requires-after_bounds g c κs within = c.requires.workers c.in-Some.worker (coming_worker c.loop-worker.invariant.coming c.in-Some.ensures.steps.0)

pub loop-worker-preserved : goal.loop-worker-preserved
loop-worker-preserved g c = record {
  coming = coming_next c.loop-worker.invariant.coming c.in-Some.ensures.steps.0 _ c.take_one-part.result.0 c.take_one-part.result.1 c.and-end.result
      (λ r q s d ok h. got_later g.D.Disk c.args.plan.now r q (part_of s, domain_of s) d ok h) c.and-end.ensures c.push_reserved.ensures.items c.push_reserved.ensures.capacity c.take_one-part.ensures.got c.take_one-part.ensures.failed;
  read = each_joined (WasRead (λ d. g.D.Disk.from d) (λ d. g.D.Disk.held d) c.args.plan.now) c.loop-worker.yielded c.in-Some.worker c.loop-worker.end c.take_one-part.result.1 c.and-end.result
      c.and-end.ensures c.loop-worker.invariant.read c.take_one-part.ensures.read;
}

pub returns : goal.returns
returns g c =
    let s = c.loop-worker.invariant.coming in
    let whole : c.loop-worker.yielded ≡ c.args.workers.items = first_of (search (rules, s.all), grind (arith, common_steps)) in
    record { room = s.room; long = rw whole at s.back.long; got = rw whole at s.back.done; failed = rw whole at s.back.failed; read = rw whole at c.loop-worker.invariant.read }
