-- One meeting more is planned, and all have arrived again.
use Rattle.run_plan.proofs.Words.{◌<◌, ap, sym, ◌∙◌, List, true≢false, arith, most_calls, setting_of, meetings, StepPlan, arrived_all, Runner, all_ended, next_meeting, order_in, plan_stage, Progress}
use Rattle.run_plan.proofs.FollowLaws.{all_then}
use Rattle.run_plan.proofs.run.hold_meetings.Goals as goal

pub meetings-init : goal.meetings-init
meetings-init g c = record {
  number = sym (c.in_ok-arrive_all.ensures.meetings ∙ ap (λ (steps : List StepPlan). meetings (order_in steps)) c.requires.none);
  runners = c.in_ok-arrive_all.ensures.runners;
  arrived = c.in_ok-arrive_all.ensures.arrived;
  records = c.in_ok-arrive_all.ensures.records;
  planned = c.in_ok-arrive_all.ensures.planned;
}

pub overflow_add-meetings : goal.overflow_add-meetings
overflow_add-meetings g c =
    let k = c.meetings.invariant in
    let few : meetings (order_in c.meetings.progress.steps) < most_calls =
    next_meeting _ _ _ _ _ c.args.lent.now.lawful k.runners k.arrived (c.all_hold.ensures.0 c.meetings-test.true) in
    let number = k.number in
    omega arith

pub meetings-smaller : goal.meetings-smaller
meetings-smaller g c =
    let k = c.meetings.invariant in
    let few : meetings (order_in c.meetings.progress.steps) < most_calls =
    next_meeting _ _ _ _ _ c.args.lent.now.lawful k.runners k.arrived (c.all_hold.ensures.0 c.meetings-test.true) in
    let number = k.number in
    omega arith

pub meetings-preserved : goal.meetings-preserved
meetings-preserved g c =
    let k = c.meetings.invariant in
    let met = c.in_ok-meet.ensures in
    let arrived = c.in_ok-arrive_all-2.ensures in
    let script = c.args.lent.now.script.now in
    let header = c.args.lent.now.header.now in
    let s = setting_of script header in
    let steps = c.args.progress.now.steps in
    let at = λ (p : Progress) (runners : List Runner). plan_stage p.size p.records (arrived_all header script.calls runners) in
    let first = at c.args.progress.now c.args.runners.now in
    let before = at c.meetings.progress c.meetings.runners in
    let mid = at c.meet.new.progress c.meet.new.runners in
    let last = at c.arrive_all-in-meetings.new.progress c.arrive_all-in-meetings.new.runners in
    record {
      number = sym (arrived.meetings ∙ met.meetings);
      runners = arrived.runners;
      arrived = arrived.arrived;
      records = arrived.records;
      planned = all_then script.hints s steps c.meet.new.progress.steps c.arrive_all-in-meetings.new.progress.steps first mid last
          (all_then script.hints s steps c.meetings.progress.steps c.meet.new.progress.steps first before mid k.planned met.planned) arrived.planned;
    }

pub returns-clause-free : goal.returns-clause-free
returns-clause-free g c =
    let k = c.meetings.invariant in
    all_ended c.args.lent.now.script.now c.args.lent.now.header.now _ (order_in c.meetings.progress.steps) c.meetings.runners c.args.lent.now.lawful k.runners k.arrived
    (λ met. true≢false (sym (c.all_hold.ensures.1 met) ∙ c.meetings-test.false))
