-- One call more, an offer, or no call.
use Rattle.reference.proofs.Words.{◌∙◌, ◌-◌, call_share, going_of, arith, nat_tests, comes_to_end}
use Rattle.reference.proofs.RunnerLaws.{comes_answered, first_call, gone_offer, no_call}
use Rattle.reference.proofs.runners.Runner.go_on.Goals as goal

pub step-requires-clause-share : goal.step-requires-clause-share
step-requires-clause-share c =
    let own = c.calls.self.calls.now in
    let ready = c.calls.invariant.come.ready in
    grind (arith, nat_tests, call_share ready.script ready.order ready.r (going_of c.calls.self) c.call-item.result, first_call own c.call-item.result c.in-len1-up.len_at_least c.call-item.is)

pub calls-preserved : goal.calls-preserved
calls-preserved c = record {
  of_header = c.in_ok-answer.ensures.header ∙ c.calls.invariant.of_header;
  free = c.calls.invariant.free;
  come = comes_answered _ _ _ _ _ _ _ _ c.calls.invariant.come (first_call c.calls.self.calls.now c.call-item.result c.in-len1-up.len_at_least c.call-item.is) c.calls.invariant.of_header
      c.in_ok-answer.ensures.step c.in_ok-answer.ensures.held c.in-Answered.answer c.push.new.self c.in-Answered.is c.in_ok-push-in-Answered.ensures.ok;
}

pub returns-in-Meet-clause-gone : goal.returns-in-Meet-clause-gone
returns-in-Meet-clause-gone c =
    gone_offer _ _ _ _ _ _ _ _ c.calls.invariant.come (first_call c.calls.self.calls.now c.call-item.result c.in-len1-up.len_at_least c.call-item.is) c.calls.invariant.of_header
    c.in_ok-answer.ensures.step c.in_ok-answer.ensures.held c.in-Meet.offer c.in_ok-answer.ensures.sound c.in-Meet.is

pub returns-clause-gone : goal.returns-clause-gone
returns-clause-gone c = grind (arith, nat_tests, no_call, comes_to_end, c.calls.invariant.come, c.calls.invariant.free)
