-- The rank goes on from one solo offer to the next.
use Rattle.run_plan.proofs.Words.{◌≡◌, refl, ◌∙◌, ap, subst, length, List, None, arith, Answer, setting_of, Arrived, IsOnWay, ranks_lawful, call_number, between, calls_of, arrived, alone_asks, arrived_gone, same_runner, taken_asks, way_free, went_runner, order_in, rank_plan, HasPlanned, sym, Runner}
use Rattle.run_plan.proofs.FollowLaws.{planned_same, planned_then}
use Rattle.run_plan.proofs.steps.arrive.Goals as goal

pub own_calls-calls-requires : goal.own_calls-calls-requires
own_calls-calls-requires g c = let long = (ranks_lawful c.args.lent.now.script.now c.args.lent.now.lawful).one_each in omega arith

pub alone-init : goal.alone-init
alone-init g c =
    let script = c.args.lent.now.script.now in
    let header = c.args.lent.now.header.now in
    let r = c.args.number in
    let order = order_in c.args.progress.now.steps in
    let own = c.own_calls-calls.result.now in
    let all = calls_of script r in
    let e : own ≡ all = c.own_calls-calls.ensures in
    let new = c.go_on.new.self in
    let here : IsOnWay script order r (between own c.args.runner.now) None = rw e (way_free script header order r all c.args.runner.now c.requires.free c.requires.runner.placed) in
    record {
      longer = omega arith;
      runner = went_runner script header order r own new e c.go_on.ensures.header (c.in_ok-go_on.ensures.placed order here) c.in_ok-go_on.ensures.asked;
      ended = rw e at c.in_ok-go_on.ensures.ended;
      known = rw c.in_ok-go_on.ensures.known c.requires.known;
      planned = planned_same script.hints (setting_of script header) r c.args.progress.now.steps c.args.progress.now.size (arrived header all c.args.runner.now) (arrived header all new)
          (rw e at (arrived_gone header own c.args.runner.now new c.requires.free c.in_ok-go_on.ensures.advanced c.in_ok-go_on.ensures.ended));
      count = refl;
    }

pub do_alone-requires-clause-asks : goal.do_alone-requires-clause-asks
do_alone-requires-clause-asks g c =
    let script = c.args.lent.now.script.now in
    let taken = c.in-Some.ensures.taken in
    rw (c.take_alone.ensures.rank, c.take_alone.ensures.answers)
    (alone_asks script c.args.lent.now.header.now (order_in c.alone.progress.steps) c.args.number (calls_of script c.args.number) c.alone.runner c.in-Some.offer taken.0 taken.1 c.alone.invariant.runner.placed)

pub alone-smaller : goal.alone-smaller
alone-smaller g c =
    let script = c.args.lent.now.script.now in
    let all = calls_of script c.args.number in
    let taken = c.in-Some.ensures.taken in
    let asks = alone_asks script c.args.lent.now.header.now (order_in c.alone.progress.steps) c.args.number all c.alone.runner c.in-Some.offer taken.0 taken.1 c.alone.invariant.runner.placed in
    let few = call_number script (order_in c.alone.progress.steps) c.args.number _ asks.call _ asks.way refl in
    let one = c.in_ok-do_alone.ensures.answers in
    let more = c.in_ok-go_on-2.ensures.more in
    let same = ap (λ (xs : List Answer). length xs) c.take_alone.ensures.answers in
    omega arith

pub alone-preserved : goal.alone-preserved
alone-preserved g c =
    let script = c.args.lent.now.script.now in
    let header = c.args.lent.now.header.now in
    let r = c.args.number in
    let s = setting_of script header in
    let own = c.own_calls-calls.result.now in
    let all = calls_of script r in
    let e : own ≡ all = c.own_calls-calls.ensures in
    let taken = c.in-Some.ensures.taken in
    let mid = c.do_alone.new.runner in
    let new = c.go_on-in-Some.new.self in
    let progress = c.do_alone.new.progress in
    let order = order_in progress.steps in
    let here : IsOnWay script order r (between own mid) None = rw e c.in_ok-do_alone.ensures.way in
    let longer = c.alone.invariant.longer in
    let grown = c.in_ok-do_alone.ensures.longer in
    let asked = subst (λ (a : Arrived). HasPlanned script.hints s r (rank_plan c.alone.progress.steps c.alone.progress.size a) (rank_plan progress.steps progress.size (arrived header all mid)))
    (taken_asks header all c.alone.runner c.take_alone.new.runner c.in-Some.offer taken.0 c.take_alone.ensures.rank c.take_alone.ensures.answers) c.in_ok-do_alone.ensures.planned in
    let gone = planned_same script.hints s r progress.steps progress.size (arrived header all mid) (arrived header all new)
    (rw e at (arrived_gone header own mid new c.do_alone.ensures.free c.in_ok-go_on-2.ensures.advanced c.in_ok-go_on-2.ensures.ended)) in
    record {
      longer = omega arith;
      runner = went_runner script header order r own new e c.go_on-in-Some.ensures.header (c.in_ok-go_on-2.ensures.placed order here) c.in_ok-go_on-2.ensures.asked;
      ended = rw e at c.in_ok-go_on-2.ensures.ended;
      known = rw c.in_ok-go_on-2.ensures.known c.in_ok-do_alone.ensures.known;
      planned = planned_then _ _ _ _ _ _ c.alone.invariant.planned (planned_then _ _ _ _ _ _ asked gone);
      count = c.do_alone.ensures.records ∙ c.alone.invariant.count;
    }

pub returns-clause-planned : goal.returns-clause-planned
returns-clause-planned g c =
    let script = c.args.lent.now.script.now in
    let header = c.args.lent.now.header.now in
    let all = calls_of script c.args.number in
    let same = same_runner c.alone.runner c.take_alone.new.runner c.take_alone.ensures.rank c.take_alone.ensures.answers c.in_default.ensures.left.0 in
    subst (λ (x : Runner). HasPlanned script.hints (setting_of script header) c.args.number (rank_plan c.args.progress.now.steps c.args.progress.now.size (arrived header all c.args.runner.now))
    (rank_plan c.alone.progress.steps c.alone.progress.size (arrived header all x))) (sym same) c.alone.invariant.planned
