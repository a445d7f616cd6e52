-- The meeting is planned, and each rank has heard zeros.
use Rattle.run_plan.proofs.Words.{ℕ, [], ◌∷◌, ◌++◌, refl, sym, ◌∙◌, ap, length, map, arith, Meet, setting_of, lawful_hints, puts_in, batch_gets, zero_rows, ranks_lawful, StepPlan, count_begins, free_after, have_done, runners_after, table_long, taken_by, to_hear, meets_job, meets_rise, met_number, order_in}
use Rattle.run_plan.proofs.CallerLaws.{few_answers}
use Rattle.run_plan.proofs.CountSteps.{grown, met_counted}
use Rattle.run_plan.proofs.FollowLaws.{order_more}
use Rattle.run_plan.proofs.MeetLaws.{meet_device, meeting_planned}
use Rattle.run_plan.proofs.steps.meet.Goals as goal

pub callers_of-requires : goal.callers_of-requires
callers_of-requires g c = record {
  ranks = (let few = (ranks_lawful c.args.lent.now.script.now c.args.lent.now.lawful).most in let all = c.requires.runners.all in omega arith);
  answers = few_answers c.args.lent.now.script.now c.args.lent.now.header.now _ (order_in c.args.progress.now.steps) c.args.runners.now c.requires.runners c.requires.arrived;
}

pub invariant_of-dataset-clause-lawful : goal.invariant_of-dataset-clause-lawful
invariant_of-dataset-clause-lawful g c = lawful_hints c.args.lent.now.script.now c.args.lent.now.lawful

pub plan_meeting-requires : goal.plan_meeting-requires
plan_meeting-requires g c =
    let job = meets_job c.args.lent.now.lawful c.requires.runners c.requires.met c.requires.arrived (c.as_slice-batches.ensures ∙ c.in_ok-job.ensures.batches) in
    record {
      few = job.few;
      puts = job.puts;
      own = job.own;
      gets = job.gets;
      long = count_begins c.args.lent.now.header.now c.args.progress.now.size c.args.progress.now.records c.requires.records;
    }

pub table_for-requires : goal.table_for-requires
table_for-requires g c = λ b m.
    batch_gets c.args.lent.now.header.now c.args.progress.now.size c.as_slice-batches.result.now
    (meets_job c.args.lent.now.lawful c.requires.runners c.requires.met c.requires.arrived (c.as_slice-batches.ensures ∙ c.in_ok-job.ensures.batches)).gets b m

pub hear_all-requires : goal.hear_all-requires
hear_all-requires g c =
    let header = c.args.lent.now.header.now in
    let same = c.as_slice-batches.ensures ∙ c.in_ok-job.ensures.batches in
    let rows = ap (λ t. map (λ blobs. map (λ blob. length blob) blobs) t) c.in_ok-zeros.ensures ∙ zero_rows header c.as_slice-batches.result.now in
    record {
      long = table_long header c.args.runners.now c.as_slice-batches.result.now c.in_ok-zeros.zeros c.requires.met same rows ∙ sym c.in_ok-job.ensures.freed.long;
      fit = to_hear c.in_ok-zeros.zeros c.requires.runners c.requires.met c.requires.arrived c.in_ok-job.ensures.freed same rows;
    }

pub returns : goal.returns
returns g c =
    let script = c.args.lent.now.script.now in
    let header = c.args.lent.now.header.now in
    let s = setting_of script header in
    let batches = c.as_slice-batches.result.now in
    let order = order_in c.args.progress.now.steps in
    let same = c.as_slice-batches.ensures ∙ c.in_ok-job.ensures.batches in
    let job = meets_job c.args.lent.now.lawful c.requires.runners c.requires.met c.requires.arrived same in
    let rows = ap (λ t. map (λ blobs. map (λ blob. length blob) blobs) t) c.in_ok-zeros.ensures ∙ zero_rows header batches in
    let wide = table_long header c.args.runners.now batches c.in_ok-zeros.zeros c.requires.met same rows in
    let size = c.add.ensures.size ∙ c.in_ok-planned.ensures.size in
    let rise = meets_rise c.requires.runners c.requires.met c.requires.arrived c.in_ok-job.ensures.known in
    let counted = met_counted s (puts_in batches) c.args.progress.now.size c.add.new.self.size c.args.progress.now.records c.in_ok-job.known c.in_ok-planned.planned.records c.args.lent.now.sound
    job.puts c.requires.records rise size c.in_ok-planned.ensures.records in
    let more = order_more c.args.progress.now.steps c.add.new.self.steps _ c.in_ok-add.ensures.steps in
    record {
      runners = runners_after c.requires.runners c.requires.met c.requires.arrived c.in_ok-job.ensures.freed c.in_ok-hear_all.ensures.all wide
          (grown c.args.progress.now.size c.add.new.self.size _ size) counted (more ∙ ap (λ (k : ℕ). order ++ Meet k ∷ []) c.requires.number);
      free = free_after c.in_ok-job.ensures.freed c.in_ok-hear_all.ensures.all wide;
      meetings = sym (met_number order (order_in c.add.new.self.steps) (order_in c.add.new.self.steps) c.args.number c.args.number c.requires.number more refl);
      records = counted;
      planned =
          let file = c.in_ok-planned.planned.file in
          let p = c.in_ok-planned.ensures in
          let step : StepPlan = record { mark = Meet c.args.number; callers = c.in_ok-callers.callers; file = file } in
          rw c.in_ok-add.ensures.steps
          (meeting_planned script.hints s c.args.progress.now.steps script.calls c.args.runners.now c.hear_all.new.runners batches c.in_ok-job.known c.args.progress.now.records c.in_ok-planned.planned.records c.args.number
          c.args.progress.now.size c.add.new.self.size file.overlap c.in_ok-zeros.zeros step c.args.lent.now.sound job.puts
          (count_begins _ _ _ c.requires.records) (taken_by c.args.lent.now.lawful c.requires.runners c.requires.met same c.in_ok-job.ensures.known)
          (have_done c.requires.runners c.requires.met c.requires.arrived c.in_ok-job.ensures.freed c.in_ok-hear_all.ensures.all wide) c.in_ok-planned.ensures.overlap c.in_ok-planned.ensures.records rows refl size
          (meet_device script.hints s batches c.args.progress.now.size c.args.progress.now.records c.in_ok-planned.planned.records file p.put_calls p.count_calls p.get_calls)
          (record { overlap = p.overlap; asked_put = p.asked_put; asked_get = p.asked_get; put_domains = p.put_domains; get_domains = p.get_domains }) c.in_ok-callers.ensures);
    }
