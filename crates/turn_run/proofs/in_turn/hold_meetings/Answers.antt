-- All have arrived, and one meeting more is held.
use Rattle.turn_run.proofs.Words.{◌<◌, sym, refl, ◌∙◌, true≢false, arith, most_calls, meetings, setting_of, arrived_all, stage, all_between, nat_tests}
use Rattle.turn_run.proofs.StageLaws.{has_led_none, has_led_then}
use Rattle.turn_run.proofs.TurnCauses.{cause_after}
use Rattle.turn_run.proofs.TurnEnds.{all_ended, met_number, next_meeting}
use Rattle.turn_run.proofs.CutLaws.{same_err}
use Rattle.turn_run.proofs.SaidLaws.{between_up, have_reached, reached_then}
use Rattle.turn_run.proofs.SaidMeet.{answers_after}
use Rattle.turn_run.proofs.TellLaws.{told_none, told_then}
use Rattle.turn_run.proofs.in_turn.hold_meetings.Goals as goal

pub meetings-init : goal.meetings-init
meetings-init g c = grind (arith, nat_tests, has_led_none, told_none, c.requires.from, c.requires.none, c.requires.runners, c.requires.free, c.requires.records)

pub meet-requires-clause-number : goal.meet-requires-clause-number
meet-requires-clause-number g c κs within = c.meetings.invariant.number ∙ sym c.in_ok-arrive_all.ensures.meetings

pub meet-requires-clause-met : goal.meet-requires-clause-met
meet-requires-clause-met g c κs within = c.all_hold.ensures.0 c.if-not-all_hold.false

pub overflow_add-meetings : goal.overflow_add-meetings
overflow_add-meetings g c =
    let k = c.meetings.invariant.number in let arrived = c.in_ok-arrive_all.ensures in
    let few : meetings c.arrive_all.new.progress.order < most_calls =
    next_meeting c.args.lent.now.setup.script.now c.args.lent.now.setup.header.now _ c.arrive_all.new.progress.order c.arrive_all.new.runners c.args.lent.now.setup.lawful arrived.runners arrived.arrived (c.all_hold.ensures.0 c.if-not-all_hold.false) in
    grind (arith, nat_tests)

pub meetings-smaller : goal.meetings-smaller
meetings-smaller g c =
    let k = c.meetings.invariant.number in let arrived = c.in_ok-arrive_all.ensures in
    let few : meetings c.arrive_all.new.progress.order < most_calls =
    next_meeting c.args.lent.now.setup.script.now c.args.lent.now.setup.header.now _ c.arrive_all.new.progress.order c.arrive_all.new.runners c.args.lent.now.setup.lawful arrived.runners arrived.arrived (c.all_hold.ensures.0 c.if-not-all_hold.false) in
    grind (arith, nat_tests)

pub meetings-preserved : goal.meetings-preserved
meetings-preserved g c =
    let script = c.args.lent.now.setup.script.now in let header = c.args.lent.now.setup.header.now in
    let k = c.meetings.invariant in let arrived = c.in_ok-arrive_all.ensures in
    let met = c.in_ok-meet.ensures in let first = c.args.runners.now in
    let led = has_led_then _ _ _ c.meetings.progress.order _ _ _ _ k.led arrived.led in
    let a = stage (g.D.Disk.held c.args.disk.now) (g.D.Disk.calls c.args.disk.now) c.args.progress.now.records (arrived_all header script.calls first) in
    let b = stage (g.D.Disk.held c.arrive_all.new.disk) (g.D.Disk.calls c.arrive_all.new.disk) c.arrive_all.new.progress.records (arrived_all header script.calls c.arrive_all.new.runners) in
    let d = stage (g.D.Disk.held c.meet.new.disk) (g.D.Disk.calls c.meet.new.disk) c.meet.new.progress.records (arrived_all header script.calls c.meet.new.runners) in
    record {
      from = met.from;
      longer = let before = k.longer in let come = arrived.longer in let gone = met.longer in omega arith;
      faults = let before = k.faults in let come = arrived.cause.later in let gone = met.cause.later in omega arith;
      number = met_number c.arrive_all.new.progress.order c.meet.new.progress.order c.meet.new.progress.order c.meetings.meetings _ (k.number ∙ sym arrived.meetings) met.order refl;
      runners = met.runners;
      free = met.free;
      records = met.records;
      led = has_led_then _ _ _ c.arrive_all.new.progress.order _ _ _ _ led met.led;
      answered = λ e later last h. answers_after script.hints (setting_of script header) e c.args.progress.now.order c.arrive_all.new.progress.order c.meet.new.progress.order later (meetings c.arrive_all.new.progress.order) a b d
          (all_between script.calls first) (all_between script.calls c.meet.new.runners) last led met.led met.order (between_up header script.calls first c.requires.free) met.between h;
      told = told_then _ _ _ c.arrive_all.new.progress.order _ _ _ _ _ _ (told_then _ _ _ c.meetings.progress.order _ _ _ _ _ _ k.told k.led c.arrive_all.ensures.told) led c.meet.ensures.told;
    }

-- ---- all calls are made

pub returns-then-not-all_hold-clause-free : goal.returns-then-not-all_hold-clause-free
returns-then-not-all_hold-clause-free g c =
    let arrived = c.in_ok-arrive_all.ensures in
    all_ended c.args.lent.now.setup.script.now c.args.lent.now.setup.header.now _ c.arrive_all.new.progress.order c.arrive_all.new.runners c.args.lent.now.setup.lawful arrived.runners arrived.arrived
    (λ met. true≢false (sym (c.all_hold.ensures.1 met) ∙ c.if-not-all_hold.true))

pub returns-then-not-all_hold-clause-led : goal.returns-then-not-all_hold-clause-led
returns-then-not-all_hold-clause-led g c = has_led_then _ _ _ c.meetings.progress.order _ _ _ _ c.meetings.invariant.led c.in_ok-arrive_all.ensures.led

pub returns-then-not-all_hold-clause-told : goal.returns-then-not-all_hold-clause-told
returns-then-not-all_hold-clause-told g c = told_then _ _ _ c.meetings.progress.order _ _ _ _ _ _ c.meetings.invariant.told c.meetings.invariant.led c.arrive_all.ensures.told

pub returns-then-not-all_hold-clause-cause : goal.returns-then-not-all_hold-clause-cause
returns-then-not-all_hold-clause-cause g c = grind (arith, nat_tests, c.meetings.invariant.faults, c.arrive_all.ensures.cause.later)

-- ---- a rank was cut off before a meeting

pub returns-in_err-arrive_all-clause-cut : goal.returns-in_err-arrive_all-clause-cut
returns-in_err-arrive_all-clause-cut g c e is =
    reached_then _ c.meetings.progress.order c.meetings.invariant.led
    (c.in_err-arrive_all.ensures.cut e (same_err c.from_residual.result e c.from_residual.ensures.1 is))

pub returns-in_err-arrive_all-clause-answered : goal.returns-in_err-arrive_all-clause-answered
returns-in_err-arrive_all-clause-answered g c e is =
    c.meetings.invariant.answered e _ _ (c.in_err-arrive_all.ensures.answered e (same_err c.from_residual.result e c.from_residual.ensures.1 is))

pub returns-in_err-arrive_all-clause-told : goal.returns-in_err-arrive_all-clause-told
returns-in_err-arrive_all-clause-told g c = told_then _ _ _ c.meetings.progress.order _ _ _ _ _ _ c.meetings.invariant.told c.meetings.invariant.led c.arrive_all.ensures.told

pub returns-in_err-arrive_all-clause-cause : goal.returns-in_err-arrive_all-clause-cause
returns-in_err-arrive_all-clause-cause g c =
    grind (arith, nat_tests, cause_after, c.from_residual.ensures.1, c.meetings.invariant.faults, c.in_err-arrive_all.ensures.cause)

-- ---- the meeting was cut off

pub returns-in_err-meet-clause-cut : goal.returns-in_err-meet-clause-cut
returns-in_err-meet-clause-cut g c e is =
    reached_then _ c.arrive_all.new.progress.order
    (has_led_then _ _ _ c.meetings.progress.order _ _ _ _ c.meetings.invariant.led c.in_ok-arrive_all.ensures.led)
    (c.in_err-meet.ensures.cut e (same_err c.from_residual-in_err-meet.result e c.from_residual-in_err-meet.ensures.1 is))

pub returns-in_err-meet-clause-answered : goal.returns-in_err-meet-clause-answered
returns-in_err-meet-clause-answered g c e is =
    let script = c.args.lent.now.setup.script.now in let header = c.args.lent.now.setup.header.now in let first = c.args.runners.now in
    have_reached (setting_of script header) e c.args.progress.now.order c.meet.new.progress.order (g.D.Disk.held c.args.disk.now) c.args.progress.now.records (all_between script.calls first) (arrived_all header script.calls first) c.meet.new.runners
    (between_up header script.calls first c.requires.free)
    (reached_then _ c.arrive_all.new.progress.order (has_led_then _ _ _ c.meetings.progress.order _ _ _ _ c.meetings.invariant.led c.in_ok-arrive_all.ensures.led)
    (c.in_err-meet.ensures.answered e (same_err c.from_residual-in_err-meet.result e c.from_residual-in_err-meet.ensures.1 is)))

pub returns-in_err-meet-clause-told : goal.returns-in_err-meet-clause-told
returns-in_err-meet-clause-told g c =
    told_then _ _ _ c.arrive_all.new.progress.order _ _ _ _ _ _ (told_then _ _ _ c.meetings.progress.order _ _ _ _ _ _ c.meetings.invariant.told c.meetings.invariant.led c.arrive_all.ensures.told)
    (has_led_then _ _ _ c.meetings.progress.order _ _ _ _ c.meetings.invariant.led c.in_ok-arrive_all.ensures.led) c.meet.ensures.told

pub returns-in_err-meet-clause-cause : goal.returns-in_err-meet-clause-cause
returns-in_err-meet-clause-cause g c =
    grind (arith, nat_tests, cause_after, c.from_residual-in_err-meet.ensures.1, c.meetings.invariant.faults, c.arrive_all.ensures.cause.later, c.in_err-meet.ensures.cause)
