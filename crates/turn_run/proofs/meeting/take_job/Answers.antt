-- One more offer is taken.
use Rattle.turn_run.proofs.Words.{◌<◌, sym, ◌∙◌, length, get_or, arith, IsFreed, slice_get_within, slice_get-get_or, left_more, each_more, nat_tests}
use Rattle.turn_run.proofs.MeetJob.{batches_next, known_next}
use Rattle.turn_run.proofs.SaidMeet.{keep_part}
use Rattle.turn_run.proofs.meeting.take_job.Goals as goal

pub loop-runner-preserved : goal.loop-runner-preserved
loop-runner-preserved c =
    let old = c.args.runners.now in let now = c.loop-runner.runners in
    let i = c.loop-runner.runner-index in let runner = get_or now i c.runner-item.result in
    let long = c.loop-runner.auto.runners in let test = c.loop-runner-test.true in
    let within : i < length now = omega arith in let own = slice_get-get_or now i c.runner-item.result within in
    let there = sym (c.loop-runner.invariant.left i (omega arith)) ∙ own in
    record {
      batches = batches_next old i runner _ _ there c.loop-runner.invariant.batches c.in_ok-take_offer.ensures.batches;
      known = known_next old i runner _ _ _ there c.loop-runner.invariant.known c.in_ok-take_offer.ensures.known c.max-known.ensures;
      freed = each_more (λ r a b. IsFreed a b) old now i runner c.take_offer.new.runner there own c.in_ok-take_offer.ensures.freed c.loop-runner.invariant.freed;
      left = left_more old now i c.take_offer.new.runner c.loop-runner.invariant.left;
    }

pub returns-clause-freed : goal.returns-clause-freed
returns-clause-freed c = record {
  long = c.loop-runner.auto.runners;
  each = λ r a b g h. let l = slice_get_within c.loop-runner.runners r b h in let past = c.loop-runner-test.false in c.loop-runner.invariant.freed r a b (omega arith) g h;
}

pub returns-clause-kept : goal.returns-clause-kept
returns-clause-kept c = grind (arith, nat_tests, c.loop-runner.auto.runners, c.loop-runner-test.false, c.loop-runner.invariant.freed)

pub returns-in_err-take_offer-clause-kept : goal.returns-in_err-take_offer-clause-kept
returns-in_err-take_offer-clause-kept c =
    let old = c.args.runners.now in let now = c.loop-runner.runners in
    let i = c.loop-runner.runner-index in let runner = get_or now i c.runner-item.result in
    let long = c.loop-runner.auto.runners in let test = c.loop-runner-test.true in
    let within : i < length now = omega arith in let own = slice_get-get_or now i c.runner-item.result within in
    keep_part old now i runner c.take_offer.new.runner own (λ r a b l g h. (c.loop-runner.invariant.freed r a b l g h).answers) c.loop-runner.invariant.left c.take_offer.ensures.kept
