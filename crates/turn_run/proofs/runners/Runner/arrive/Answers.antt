-- The rank goes on from one solo offer to the next.
use Rattle.turn_run.proofs.Words.{◌≡◌, refl, sym, ◌∙◌, ap, subst, List, None, Some, arith, Call, setting_of, IsOnWay, ranks_lawful, between, calls_of, Arrived, arrived, call_number, MayFollow, SaysAt, on_err, nat_tests}
use Rattle.turn_run.proofs.RunnerLaws.{way_rest}
use Rattle.turn_run.proofs.AloneLaws.{arrived_gone, asks_on, gone_grown, gone_same, gone_then, grown_then, taken_alone, way_free, went_runner}
use Rattle.turn_run.proofs.CutLaws.{gone_stopped, stopped_between, memory_of, same_err}
use Rattle.turn_run.proofs.SaidLaws.{gone_reached, part_arrived, reached_here, said_part, says_here}
use Rattle.turn_run.proofs.TellLaws.{told_gone, told_none}
use Rattle.turn_run.proofs.runners.Runner.arrive.Goals as goal

pub own_calls-calls-requires : goal.own_calls-calls-requires
own_calls-calls-requires g c = let long = (ranks_lawful c.args.lent.now.setup.script.now c.args.lent.now.setup.lawful).one_each in omega arith

pub alone-init : goal.alone-init
alone-init g c =
    grind (arith, nat_tests, way_free, gone_same, told_none, c.requires.from, c.requires.runner.of_header, c.requires.free, c.requires.runner.placed, c.requires.known)

pub go_on-requires-clause-way : goal.go_on-requires-clause-way
go_on-requires-clause-way g c κs within = grind (arith, nat_tests, c.own_calls-calls.ensures, c.alone.invariant.way)

-- ---- there is no memory to go on

pub returns-in_err-go_on-clause-grown : goal.returns-in_err-go_on-clause-grown
returns-in_err-go_on-clause-grown g c = gone_grown _ _ _ _ _ _ _ _ _ _ _ c.alone.invariant.gone

pub returns-in_err-go_on-clause-begun : goal.returns-in_err-go_on-clause-begun
returns-in_err-go_on-clause-begun g c = on_err _ (way_rest c.args.lent.now.setup.script.now c.alone.progress.order c.args.number _ None c.alone.invariant.way)

pub returns-in_err-go_on-clause-cut : goal.returns-in_err-go_on-clause-cut
returns-in_err-go_on-clause-cut g c e is records ranks at = gone_stopped (MayFollow c.args.lent.now.setup.script.now c.args.number c.alone.progress.order) c.alone.progress.order c.alone.invariant.gone
    (λ n others there. stopped_between (memory_of c.from_residual.result e c.from_residual.ensures.1 is) refl refl refl) records ranks at

pub returns-in_err-go_on-clause-answered : goal.returns-in_err-go_on-clause-answered
returns-in_err-go_on-clause-answered g c e is records ranks at =
    gone_reached (SaysAt c.args.number e c.go_on.new.self.answers) c.alone.progress.order c.alone.invariant.gone
    (λ n others there. reached_here (SaysAt c.args.number e c.go_on.new.self.answers) _ _ _ _ _ _ refl
    (λ m. says_here _ _ _ _ m others there (said_part e _ _ (memory_of c.from_residual.result e c.from_residual.ensures.1 is)
    (part_arrived c.args.lent.now.setup.header.now c.own_calls-calls.result.now (calls_of c.args.lent.now.setup.script.now c.args.number) c.alone.self c.go_on.new.self.answers
    c.own_calls-calls.ensures c.alone.invariant.free c.in_err-go_on.ensures.some)))) records ranks at

pub returns-in_err-go_on-clause-told : goal.returns-in_err-go_on-clause-told
returns-in_err-go_on-clause-told g c = c.alone.invariant.told

-- ---- it meets the others, or has made its calls

pub returns-in-None-clause-runner : goal.returns-in-None-clause-runner
returns-in-None-clause-runner g c =
    let script = c.args.lent.now.setup.script.now in let header = c.args.lent.now.setup.header.now in
    grind (arith, nat_tests, went_runner, c.own_calls-calls.ensures, c.alone.invariant.way, c.in-None.ensures.left.0, c.go_on.ensures.header, c.in_ok-go_on.ensures.placed, c.in_ok-go_on.ensures.asked)

pub returns-in-None-clause-arrived : goal.returns-in-None-clause-arrived
returns-in-None-clause-arrived g c =
    grind (arith, nat_tests, c.own_calls-calls.ensures, c.in_ok-go_on.ensures.ended, c.in-None.ensures.left.0, c.in-None.ensures.left.1)

pub returns-in-None-clause-known : goal.returns-in-None-clause-known
returns-in-None-clause-known g c = grind (arith, nat_tests, c.in-None.ensures.left.0, c.in_ok-go_on.ensures.known, c.alone.invariant.known)

pub returns-in-None-clause-gone : goal.returns-in-None-clause-gone
returns-in-None-clause-gone g c =
    let script = c.args.lent.now.setup.script.now in let header = c.args.lent.now.setup.header.now in
    let own = c.own_calls-calls.result.now in let all = calls_of script c.args.number in let old = c.alone.self in let new = c.go_on.new.self in
    let same = subst (λ (o : List Call). arrived header o old ≡ arrived header o new) c.own_calls-calls.ensures (arrived_gone header own old new c.alone.invariant.free c.in_ok-go_on.ensures.advanced c.in_ok-go_on.ensures.ended) in
    grind (arith, nat_tests, c.in-None.ensures.left.0, c.alone.invariant.gone)

pub returns-in-None-clause-grown : goal.returns-in-None-clause-grown
returns-in-None-clause-grown g c = gone_grown _ _ _ _ _ _ _ _ _ _ _ c.alone.invariant.gone

pub returns-in-None-clause-told : goal.returns-in-None-clause-told
returns-in-None-clause-told g c = c.alone.invariant.told

-- ---- it does its offer alone

pub do_alone-requires-clause-asks : goal.do_alone-requires-clause-asks
do_alone-requires-clause-asks g c κs within =
    let script = c.args.lent.now.setup.script.now in let header = c.args.lent.now.setup.header.now in
    let order = c.alone.progress.order in let r = c.args.number in let taken = c.in-Some.ensures.taken in
    let way = subst (λ (o : List Call). IsOnWay script order r (between o c.alone.self) None) (sym c.own_calls-calls.ensures) c.alone.invariant.way in
    taken_alone script header order r c.own_calls-calls.result.now (calls_of script r) c.go_on.new.self c.take_alone.new.self c.in-Some.offer c.own_calls-calls.ensures taken.0 taken.1 c.take_alone.ensures.rank c.take_alone.ensures.answers
    (c.in_ok-go_on.ensures.placed order way)

pub do_alone-requires-clause-known : goal.do_alone-requires-clause-known
do_alone-requires-clause-known g c κs within = grind (arith, nat_tests, c.take_alone.ensures.rank, c.in_ok-go_on.ensures.known, c.alone.invariant.known)

pub alone-smaller : goal.alone-smaller
alone-smaller g c =
    let script = c.args.lent.now.setup.script.now in let taken = c.in-Some.ensures.taken in
    grind (arith, nat_tests, taken_alone, call_number, c.own_calls-calls.ensures, c.alone.invariant.way, c.take_alone.ensures.rank, c.take_alone.ensures.answers, c.in_ok-go_on.ensures.placed, c.in_ok-do_alone-in-Some.ensures.answers, c.in_ok-go_on.ensures.more)

pub alone-preserved : goal.alone-preserved
alone-preserved g c =
    let script = c.args.lent.now.setup.script.now in let header = c.args.lent.now.setup.header.now in
    let r = c.args.number in let hints = script.hints in let s = setting_of script header in let all = calls_of script r in
    let k = c.alone.invariant in let order = c.do_alone.new.progress.order in
    let asks = asks_on header c.own_calls-calls.result.now all c.alone.self c.go_on.new.self c.take_alone.new.self c.in-Some.offer c.own_calls-calls.ensures c.alone.invariant.free
    c.in_ok-go_on.ensures.advanced c.in_ok-go_on.ensures.ended c.in-Some.ensures.taken.0 c.take_alone.ensures.rank c.take_alone.ensures.answers in
    record {
      from = c.do_alone.ensures.from;
      longer = let before = k.longer in let more = c.do_alone.ensures.longer in omega arith;
      faults = let before = k.faults in let later = c.do_alone.ensures.cause.later in omega arith;
      of_header = c.do_alone.ensures.header;
      free = c.do_alone.ensures.free;
      way = c.in_ok-do_alone-in-Some.ensures.way;
      known = c.in_ok-do_alone-in-Some.ensures.known;
      gone = grind (arith, nat_tests, gone_then, c.in_ok-do_alone-in-Some.ensures.gone);
      count = c.do_alone.ensures.records ∙ k.count;
      told = told_gone c.alone.progress.order k.gone k.told asks (λ others there. rw k.count at (c.do_alone.ensures.told others there));
    }

-- ---- it was cut off there

pub returns-in_err-do_alone-in-Some-clause-grown : goal.returns-in_err-do_alone-in-Some-clause-grown
returns-in_err-do_alone-in-Some-clause-grown g c = grown_then _ _ _ _ (gone_grown _ _ _ _ _ _ _ _ _ _ _ c.alone.invariant.gone) c.do_alone.ensures.grown

pub returns-in_err-do_alone-in-Some-clause-cut : goal.returns-in_err-do_alone-in-Some-clause-cut
returns-in_err-do_alone-in-Some-clause-cut g c e is records ranks at =
    let script = c.args.lent.now.setup.script.now in let r = c.args.number in
    let asks = asks_on c.args.lent.now.setup.header.now c.own_calls-calls.result.now (calls_of script r) c.alone.self c.go_on.new.self c.take_alone.new.self c.in-Some.offer c.own_calls-calls.ensures c.alone.invariant.free
    c.in_ok-go_on.ensures.advanced c.in_ok-go_on.ensures.ended c.in-Some.ensures.taken.0 c.take_alone.ensures.rank c.take_alone.ensures.answers in
    let same = same_err c.from_residual-in_err-do_alone-in-Some.result e c.from_residual-in_err-do_alone-in-Some.ensures.1 is in
    gone_stopped (MayFollow script r c.do_alone.new.progress.order) c.alone.progress.order c.alone.invariant.gone
    (λ n others there. c.in_err-do_alone-in-Some.ensures.cut e same n others (there ∙ ap (λ (a : Arrived). Some a) (sym asks))) records ranks at

pub returns-in_err-do_alone-in-Some-clause-answered : goal.returns-in_err-do_alone-in-Some-clause-answered
returns-in_err-do_alone-in-Some-clause-answered g c e is records ranks at =
    let script = c.args.lent.now.setup.script.now in let r = c.args.number in
    let asks = asks_on c.args.lent.now.setup.header.now c.own_calls-calls.result.now (calls_of script r) c.alone.self c.go_on.new.self c.take_alone.new.self c.in-Some.offer c.own_calls-calls.ensures c.alone.invariant.free
    c.in_ok-go_on.ensures.advanced c.in_ok-go_on.ensures.ended c.in-Some.ensures.taken.0 c.take_alone.ensures.rank c.take_alone.ensures.answers in
    let same = same_err c.from_residual-in_err-do_alone-in-Some.result e c.from_residual-in_err-do_alone-in-Some.ensures.1 is in
    gone_reached (SaysAt r e c.do_alone.new.self.answers) c.alone.progress.order c.alone.invariant.gone
    (λ n others there. c.in_err-do_alone-in-Some.ensures.answered e same n others (there ∙ ap (λ (a : Arrived). Some a) (sym asks))) records ranks at

pub returns-in_err-do_alone-in-Some-clause-told : goal.returns-in_err-do_alone-in-Some-clause-told
returns-in_err-do_alone-in-Some-clause-told g c =
    let all = calls_of c.args.lent.now.setup.script.now c.args.number in
    let asks = asks_on c.args.lent.now.setup.header.now c.own_calls-calls.result.now all c.alone.self c.go_on.new.self c.take_alone.new.self c.in-Some.offer c.own_calls-calls.ensures c.alone.invariant.free
    c.in_ok-go_on.ensures.advanced c.in_ok-go_on.ensures.ended c.in-Some.ensures.taken.0 c.take_alone.ensures.rank c.take_alone.ensures.answers in
    told_gone c.alone.progress.order c.alone.invariant.gone c.alone.invariant.told asks (λ others there. rw c.alone.invariant.count at (c.do_alone.ensures.told others there))
