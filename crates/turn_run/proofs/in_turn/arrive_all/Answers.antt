-- One rank more has arrived.
use Rattle.turn_run.proofs.Words.{◌≡◌, ◌<◌, ◌≤◌, ◌+◌, ℕ, refl, sym, ◌∙◌, Some, None, arith, slice_get, slice_index_or, Runner, calls_of, HasArrived, setting_of, ranks_lawful, arrived_all, slice_get_within, left_more, nat_tests}
use Rattle.turn_run.proofs.CountLaws.{count_longer}
use Rattle.turn_run.proofs.StageLaws.{has_led_none, has_led_then}
use Rattle.turn_run.proofs.TurnSteps.{arrived_at, below_other, get_at, gone_led, grown_meetings, runners_begun, runners_step, set_each, step_begun}
use Rattle.turn_run.proofs.CutLaws.{stopped_as, follows_next, same_err}
use Rattle.turn_run.proofs.SaidLaws.{answers_cut, grown_beside, reached_then}
use Rattle.turn_run.proofs.TellLaws.{told_none, told_then}
use Rattle.turn_run.proofs.in_turn.arrive_all.Goals as goal

pub loop-number-init : goal.loop-number-init
loop-number-init g c = record {
  from = c.requires.from;
  longer = omega arith;
  faults = omega arith;
  runners = c.requires.runners;
  met = refl;
  arrived = λ r runner l e. absurd (omega arith);
  free = λ r runner l e. c.requires.free r runner e;
  same = λ r l. refl;
  others = λ r l. refl;
  led = λ records. has_led_none _ _ _ _;
  count = refl;
  told = told_none _ _ _ _ _ _ _ _ refl refl;
}

pub arrive-requires-clause-free : goal.arrive-requires-clause-free
arrive-requires-clause-free g c κs within =
    c.loop-number.invariant.free c.loop-number.number _ (omega arith) (get_at c.loop-number.runners c.loop-number.number c.index-runners-number.result (omega arith))

pub arrive-requires-clause-runner : goal.arrive-requires-clause-runner
arrive-requires-clause-runner g c κs within =
    c.loop-number.invariant.runners.each c.loop-number.number _ (get_at c.loop-number.runners c.loop-number.number c.index-runners-number.result (omega arith))

pub arrive-requires-clause-known : goal.arrive-requires-clause-known
arrive-requires-clause-known g c κs within =
    c.loop-number.invariant.runners.known c.loop-number.number _ (get_at c.loop-number.runners c.loop-number.number c.index-runners-number.result (omega arith))

pub returns-in_err-arrive-clause-meetings : goal.returns-in_err-arrive-clause-meetings
returns-in_err-arrive-clause-meetings g c = grind (arith, nat_tests, grown_meetings, c.arrive.ensures.grown, c.loop-number.invariant.met)

pub returns-in_err-arrive-clause-begun : goal.returns-in_err-arrive-clause-begun
returns-in_err-arrive-clause-begun g c =
    step_begun c.args.lent.now.setup.script.now c.args.lent.now.setup.header.now _ c.loop-number.progress.order c.arrive.new.progress.order c.loop-number.runners c.loop-number.number c.loop-number.invariant.runners
    (omega arith) c.arrive.ensures.grown c.in_err-arrive.ensures.begun

pub loop-number-preserved : goal.loop-number-preserved
loop-number-preserved g c =
    let n = c.loop-number.number in let runners = c.loop-number.runners in
    let was = slice_index_or runners n c.index-runners-number.result in let runner = c.arrive.new.self in
    let before = c.loop-number.invariant in let done = c.in_ok-arrive.ensures in
    let there : slice_get runners n ≡ Some was = get_at runners n c.index-runners-number.result (omega arith) in
    let long = (ranks_lawful c.args.lent.now.setup.script.now c.args.lent.now.setup.lawful).one_each in
    record {
      from = done.from;
      longer = omega arith;
      faults = omega arith;
      runners = runners_step c.args.lent.now.setup.script.now c.args.lent.now.setup.header.now _ _ c.loop-number.progress.order c.arrive.new.progress.order runners n was runner before.runners there done.grown done.longer done.runner done.known;
      met = grown_meetings n c.loop-number.progress.order c.arrive.new.progress.order done.grown ∙ before.met;
      arrived = λ r s l e. set_each (λ (q : ℕ) (x : Runner). q < n + 1 → HasArrived (calls_of c.args.lent.now.setup.script.now q) x) runners n was runner there (λ k. done.arrived)
          (λ q x other f k. before.arrived q x (below_other q n other k) f) r s e l;
      free = λ r s l e. set_each (λ (q : ℕ) (x : Runner). n + 1 ≤ q → x.held ≡ None) runners n was runner there (λ k. absurd (omega arith))
          (λ q x other f k. before.free q x (omega arith) f) r s e l;
      same = left_more c.args.runners.now runners n runner before.same;
      others = λ r l. grown_beside n r c.loop-number.progress.order c.arrive.new.progress.order (λ e. absurd (omega arith)) done.grown ∙ before.others r (omega arith);
      led = λ records. has_led_then _ _ _ c.loop-number.progress.order _ _ _ _ (before.led records)
          (gone_led c.args.lent.now.setup.script.now c.args.lent.now.setup.header.now runners n was runner c.loop-number.progress.order c.arrive.new.progress.order _ _ _ _ c.args.lent.now.setup.lawful (omega arith) there done.gone records);
      count = c.arrive.ensures.records ∙ before.count;
      told = told_then _ _ _ _ _ _ _ _ _ _ before.told (before.led c.args.progress.now.records)
          (rw before.count at (c.arrive.ensures.told (arrived_all c.args.lent.now.setup.header.now c.args.lent.now.setup.script.now.calls runners)
          (arrived_at c.args.lent.now.setup.script.now c.args.lent.now.setup.header.now runners n was (long ∙ sym before.runners.all) there)));
    }

pub returns-clause-arrived : goal.returns-clause-arrived
returns-clause-arrived g c r runner e = let l = slice_get_within c.loop-number.runners r runner e in c.loop-number.invariant.arrived r runner (omega arith) e

pub returns-clause-records : goal.returns-clause-records
returns-clause-records g c = grind (arith, nat_tests, count_longer, c.loop-number.invariant.count, c.loop-number.invariant.longer, c.requires.records)

pub returns-clause-led : goal.returns-clause-led
returns-clause-led g c = rw c.loop-number.invariant.count (c.loop-number.invariant.led c.args.progress.now.records)

pub returns-clause-begun : goal.returns-clause-begun
returns-clause-begun g c = runners_begun c.args.lent.now.setup.script.now c.args.lent.now.setup.header.now _ c.loop-number.progress.order c.loop-number.runners c.loop-number.invariant.runners

pub returns-in_err-arrive-clause-cut : goal.returns-in_err-arrive-clause-cut
returns-in_err-arrive-clause-cut g c e is =
    let script = c.args.lent.now.setup.script.now in let header = c.args.lent.now.setup.header.now in let before = c.loop-number.invariant in
    let n = c.loop-number.number in let runners = c.loop-number.runners in let was = slice_index_or runners n c.index-runners-number.result in
    let there : slice_get runners n ≡ Some was = get_at runners n c.index-runners-number.result (omega arith) in
    rw (c.arrive.ensures.records ∙ before.count) (reached_then _ c.loop-number.progress.order (before.led c.args.progress.now.records)
    (stopped_as (follows_next script header _ c.loop-number.progress.order c.arrive.new.progress.order runners n c.args.lent.now.setup.lawful before.runners (omega arith) c.arrive.ensures.grown)
    (c.in_err-arrive.ensures.cut e (same_err c.from_residual.result e c.from_residual.ensures.1 is) c.args.progress.now.records (arrived_all header script.calls runners)
    (arrived_at script header runners n was ((ranks_lawful script c.args.lent.now.setup.lawful).one_each ∙ sym before.runners.all) there))))

pub returns-in_err-arrive-clause-answered : goal.returns-in_err-arrive-clause-answered
returns-in_err-arrive-clause-answered g c e is =
    let records = c.args.progress.now.records in let script = c.args.lent.now.setup.script.now in
    let header = c.args.lent.now.setup.header.now in let s = setting_of script header in
    let n = c.loop-number.number in let runners = c.loop-number.runners in
    let before = c.loop-number.invariant in let was = slice_index_or runners n c.index-runners-number.result in
    let there : slice_get runners n ≡ Some was = get_at runners n c.index-runners-number.result (omega arith) in
    let long = (ranks_lawful script c.args.lent.now.setup.lawful).one_each in
    answers_cut script e n c.args.progress.now.order c.loop-number.progress.order c.arrive.new.progress.order c.args.runners.now runners was c.arrive.new.self s (g.D.Disk.held c.args.disk.now) (g.D.Disk.held c.loop-number.disk)
    (g.D.Disk.calls c.args.disk.now) (g.D.Disk.calls c.loop-number.disk) records (long ∙ sym before.runners.all) c.requires.free there (before.led records) c.arrive.ensures.grown before.others before.arrived
    before.same (c.in_err-arrive.ensures.answered e (same_err c.from_residual.result e c.from_residual.ensures.1 is) records (arrived_all header script.calls runners)
    (arrived_at script header runners n was (long ∙ sym before.runners.all) there))

pub returns-in_err-arrive-clause-told : goal.returns-in_err-arrive-clause-told
returns-in_err-arrive-clause-told g c =
    let script = c.args.lent.now.setup.script.now in let header = c.args.lent.now.setup.header.now in
    let n = c.loop-number.number in let runners = c.loop-number.runners in
    let before = c.loop-number.invariant in let was = slice_index_or runners n c.index-runners-number.result in
    let there : slice_get runners n ≡ Some was = get_at runners n c.index-runners-number.result (omega arith) in
    let long = (ranks_lawful script c.args.lent.now.setup.lawful).one_each in
    told_then _ _ _ _ _ _ _ _ _ _ before.told (before.led c.args.progress.now.records)
    (rw before.count at (c.arrive.ensures.told (arrived_all header script.calls runners) (arrived_at script header runners n was (long ∙ sym before.runners.all) there)))
