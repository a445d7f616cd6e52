-- One rank more has arrived.
use Rattle.run_plan.proofs.Words.{◌≡◌, ◌<◌, ◌≤◌, ◌+◌, ℕ, refl, ◌∙◌, Some, None, arith, slice_get, slice_index_or, slice_get_within, ranks_lawful, calls_of, HasArrived, arrived, arrived_all, Runner, count_longer, below_other, get_at, grown_meetings, runners_step, set_each, order_in, plan_stage}
use Rattle.run_plan.proofs.FollowLaws.{all_none, all_then, one_of_all, planned_grown}
use Rattle.run_plan.proofs.run.arrive_all.Goals as goal

pub loop-number-init : goal.loop-number-init
loop-number-init g c = record {
  longer = omega arith;
  runners = c.requires.runners;
  met = refl;
  arrived = λ r runner l e. absurd (omega arith);
  free = λ r runner l e. c.requires.free r runner e;
  planned = λ records. all_none _ _ _ _;
  count = refl;
}

pub arrive-requires-clause-free : goal.arrive-requires-clause-free
arrive-requires-clause-free g c =
    c.loop-number.invariant.free c.loop-number.number _ (omega arith) (get_at c.loop-number.runners c.loop-number.number c.index-runners-number.result (omega arith))

pub arrive-requires-clause-runner : goal.arrive-requires-clause-runner
arrive-requires-clause-runner g c =
    c.loop-number.invariant.runners.each c.loop-number.number _ (get_at c.loop-number.runners c.loop-number.number c.index-runners-number.result (omega arith))

pub arrive-requires-clause-known : goal.arrive-requires-clause-known
arrive-requires-clause-known g c =
    c.loop-number.invariant.runners.known c.loop-number.number _ (get_at c.loop-number.runners c.loop-number.number c.index-runners-number.result (omega arith))

pub loop-number-preserved : goal.loop-number-preserved
loop-number-preserved g c =
    let script = c.args.lent.now.script.now in
    let header = c.args.lent.now.header.now in
    let n = c.loop-number.number in
    let runners = c.loop-number.runners in
    let was = slice_index_or runners n c.index-runners-number.result in
    let runner = c.arrive.new.runner in
    let old = c.loop-number.progress in
    let now = c.arrive.new.progress in
    let before = c.loop-number.invariant in
    let done = c.in_ok-arrive.ensures in
    let there : slice_get runners n ≡ Some was = get_at runners n c.index-runners-number.result (omega arith) in
    let grown = planned_grown _ _ n _ _ done.planned in
    let long = (ranks_lawful script c.args.lent.now.lawful).one_each in
    let further = before.longer in
    let more = done.longer in
    record {
      longer = omega arith;
      runners = runners_step script header old.size now.size (order_in old.steps) (order_in now.steps) runners n was runner before.runners there grown done.longer done.runner done.known;
      met = grown_meetings n (order_in old.steps) (order_in now.steps) grown ∙ before.met;
      arrived = λ r s l e. set_each (λ (q : ℕ) (x : Runner). q < n + 1 → HasArrived (calls_of script q) x) runners n was runner there (λ k. done.arrived)
          (λ q x other f k. before.arrived q x (below_other q n other k) f) r s e l;
      free = λ r s l e. set_each (λ (q : ℕ) (x : Runner). n + 1 ≤ q → x.held ≡ None) runners n was runner there (λ k. absurd (omega arith))
          (λ q x other f k. before.free q x (omega arith) f) r s e l;
      planned = λ records. all_then _ _ _ old.steps _ _ (plan_stage old.size records (arrived_all header script.calls runners)) _ (before.planned records)
          (one_of_all script header runners n was runner old.steps now.steps old.size now.size c.args.lent.now.lawful (omega arith) there done.planned records);
      count = c.arrive.ensures.records ∙ before.count;
    }

pub returns-clause-arrived : goal.returns-clause-arrived
returns-clause-arrived g c r runner e = let l = slice_get_within c.loop-number.runners r runner e in c.loop-number.invariant.arrived r runner (omega arith) e

pub returns-clause-records : goal.returns-clause-records
returns-clause-records g c =
    rw c.loop-number.invariant.count (count_longer c.args.lent.now.header.now _ _ c.args.progress.now.records c.loop-number.invariant.longer c.requires.records)

pub returns-clause-planned : goal.returns-clause-planned
returns-clause-planned g c = rw c.loop-number.invariant.count (c.loop-number.invariant.planned c.args.progress.now.records)
