-- A meeting of all ranks.
use Rattle.turn_run.proofs.Words.{sym, ◌∙◌, refl, inr, setting_of, meetings, lawful_hints}
use Rattle.turn_run.proofs.MeetDone.{begun_after, begun_still, free_after, have_done, runners_after, table_long, taken_by, to_hear}
use Rattle.turn_run.proofs.MeetOffers.{meets_job, meets_once, meets_rise}
use Rattle.turn_run.proofs.MeetStep.{meeting_led}
use Rattle.turn_run.proofs.CutLaws.{stopped_between, memory_of}
use Rattle.turn_run.proofs.CutMeet.{stopped_meet, stopped_deaf, met_done, next_meets}
use Rattle.turn_run.proofs.SaidMeet.{all_reached_here, meeting_between, part_of_freed, reached_deaf}
use Rattle.turn_run.proofs.TellLaws.{told_meeting, told_none}
use Rattle.turn_run.proofs.meeting.meet.Goals as goal

-- ---- what the calls require

pub invariant_of-dataset : goal.invariant_of-dataset
invariant_of-dataset g c = let setup = c.args.lent.now.setup in record { sound = setup.sound; measured = setup.measured; lawful = lawful_hints setup.script.now setup.lawful }

pub meet_on_file-requires-clause-job : goal.meet_on_file-requires-clause-job
meet_on_file-requires-clause-job g c κs within = meets_job c.args.lent.now.setup.lawful c.requires.runners c.requires.met c.requires.arrived c.in_ok-job.ensures.batches

pub meet_on_file-requires-clause-known : goal.meet_on_file-requires-clause-known
meet_on_file-requires-clause-known g c κs within = meets_rise c.requires.runners c.requires.met c.requires.arrived c.in_ok-job.ensures.known

pub hear_all-requires-clause-long : goal.hear_all-requires-clause-long
hear_all-requires-clause-long g c =
    table_long c.args.lent.now.setup.header.now c.args.runners.now c.in_ok-job.job.batches c.in_ok-pair.table c.requires.met c.in_ok-job.ensures.batches c.in_ok-pair.ensures.fits ∙ sym c.in_ok-job.ensures.freed.long

pub hear_all-requires-clause-fit : goal.hear_all-requires-clause-fit
hear_all-requires-clause-fit g c =
    to_hear c.in_ok-pair.table c.requires.runners c.requires.met c.requires.arrived c.in_ok-job.ensures.freed c.in_ok-job.ensures.batches c.in_ok-pair.ensures.fits

-- ---- the meeting is done

pub returns-clause-runners : goal.returns-clause-runners
returns-clause-runners g c =
    let wide = table_long c.args.lent.now.setup.header.now c.args.runners.now c.in_ok-job.job.batches c.in_ok-pair.table c.requires.met c.in_ok-job.ensures.batches c.in_ok-pair.ensures.fits in
    runners_after c.requires.runners c.requires.met c.requires.arrived c.in_ok-job.ensures.freed c.in_ok-hear_all.ensures.all wide
    c.in_ok-pair.ensures.longer c.in_ok-pair.ensures.count (rw c.requires.number at c.in_ok-note_step.ensures.order)

pub returns-clause-free : goal.returns-clause-free
returns-clause-free g c = free_after c.in_ok-job.ensures.freed c.in_ok-hear_all.ensures.all
    (table_long c.args.lent.now.setup.header.now c.args.runners.now c.in_ok-job.job.batches c.in_ok-pair.table c.requires.met c.in_ok-job.ensures.batches c.in_ok-pair.ensures.fits)

pub returns-clause-led : goal.returns-clause-led
returns-clause-led g c =
    let wide = table_long c.args.lent.now.setup.header.now c.args.runners.now c.in_ok-job.job.batches c.in_ok-pair.table c.requires.met c.in_ok-job.ensures.batches c.in_ok-pair.ensures.fits in
    let once = meets_once c.requires.runners c.requires.met c.requires.arrived c.in_ok-job.ensures.known c.in_ok-job.ensures.batches in
    let met = c.in_ok-pair.ensures in
    meeting_led c.args.number (taken_by c.args.lent.now.setup.lawful c.requires.runners c.requires.met c.in_ok-job.ensures.batches c.in_ok-job.ensures.known)
    (have_done c.requires.runners c.requires.met c.requires.arrived c.in_ok-job.ensures.freed c.in_ok-hear_all.ensures.all wide)
    (record { shared = met.told; count = met.records; bytes = met.bytes; got = met.got }) met.fits (met.calls once) c.in_ok-note_step.ensures.order

pub returns-clause-between : goal.returns-clause-between
returns-clause-between g c =
    let wide = table_long c.args.lent.now.setup.header.now c.args.runners.now c.in_ok-job.job.batches c.in_ok-pair.table c.requires.met c.in_ok-job.ensures.batches c.in_ok-pair.ensures.fits in
    let met = c.in_ok-pair.ensures in
    meeting_between (meetings c.args.progress.now.order) (taken_by c.args.lent.now.setup.lawful c.requires.runners c.requires.met c.in_ok-job.ensures.batches c.in_ok-job.ensures.known)
    (have_done c.requires.runners c.requires.met c.requires.arrived c.in_ok-job.ensures.freed c.in_ok-hear_all.ensures.all wide)
    (record { shared = met.told; count = met.records; bytes = met.bytes; got = met.got })

pub returns-clause-told : goal.returns-clause-told
returns-clause-told g c = told_meeting c.args.number (taken_by c.args.lent.now.setup.lawful c.requires.runners c.requires.met c.in_ok-job.ensures.batches c.in_ok-job.ensures.known)
    c.in_ok-note_step.ensures.order c.in_ok-note_step.ensures.heard c.in_ok-pair.ensures.records

pub returns-clause-begun : goal.returns-clause-begun
returns-clause-begun g c = begun_after c.requires.runners c.requires.met c.requires.arrived (rw c.requires.number at c.in_ok-note_step.ensures.order)

-- ---- there is no memory for the job

pub returns-in_err-job-clause-begun : goal.returns-in_err-job-clause-begun
returns-in_err-job-clause-begun g c = begun_still c.requires.runners refl

pub returns-in_err-job-clause-cut : goal.returns-in_err-job-clause-cut
returns-in_err-job-clause-cut g c e is = stopped_between (memory_of c.from_residual.result e c.from_residual.ensures.1 is) refl refl refl

pub returns-in_err-job-clause-answered : goal.returns-in_err-job-clause-answered
returns-in_err-job-clause-answered g c e is =
    all_reached_here c.take_shared_job.new.runners c.args.lent.now.setup.lawful c.requires.runners c.take_shared_job.auto.runners c.requires.arrived c.take_shared_job.ensures.kept refl

pub returns-in_err-job-clause-told : goal.returns-in_err-job-clause-told
returns-in_err-job-clause-told g c = told_none _ _ _ _ _ _ _ _ refl refl

-- ---- the file refused it

pub returns-in_err-pair-clause-begun : goal.returns-in_err-pair-clause-begun
returns-in_err-pair-clause-begun g c = begun_still c.requires.runners refl

pub returns-in_err-pair-clause-cut : goal.returns-in_err-pair-clause-cut
returns-in_err-pair-clause-cut g c e is =
    let once = meets_once c.requires.runners c.requires.met c.requires.arrived c.in_ok-job.ensures.known c.in_ok-job.ensures.batches in
    stopped_meet (meetings c.args.progress.now.order) (taken_by c.args.lent.now.setup.lawful c.requires.runners c.requires.met c.in_ok-job.ensures.batches c.in_ok-job.ensures.known)
    (next_meets c.args.lent.now.setup.lawful c.requires.runners c.requires.met c.requires.arrived refl) refl (c.in_err-pair.ensures.refused once) (c.in_err-pair.ensures.kept once)

pub returns-in_err-pair-clause-answered : goal.returns-in_err-pair-clause-answered
returns-in_err-pair-clause-answered g c e is =
    all_reached_here c.take_shared_job.new.runners c.args.lent.now.setup.lawful c.requires.runners c.in_ok-job.ensures.freed.long c.requires.arrived c.take_shared_job.ensures.kept refl

pub returns-in_err-pair-clause-told : goal.returns-in_err-pair-clause-told
returns-in_err-pair-clause-told g c = told_none _ _ _ _ _ _ _ _ refl refl

-- ---- it was done, and there is no memory to tell it

pub returns-in_err-note_step-clause-begun : goal.returns-in_err-note_step-clause-begun
returns-in_err-note_step-clause-begun g c = begun_still c.requires.runners c.in_err-note_step.ensures.kept

pub returns-in_err-note_step-clause-cut : goal.returns-in_err-note_step-clause-cut
returns-in_err-note_step-clause-cut g c e is =
    let s = setting_of c.args.lent.now.setup.script.now c.args.lent.now.setup.header.now in
    stopped_meet (meetings c.args.progress.now.order) (taken_by c.args.lent.now.setup.lawful c.requires.runners c.requires.met c.in_ok-job.ensures.batches c.in_ok-job.ensures.known)
    (next_meets c.args.lent.now.setup.lawful c.requires.runners c.requires.met c.requires.arrived c.in_err-note_step.ensures.kept) c.in_err-note_step.ensures.kept
    (met_done s c.in_ok-job.job.batches c.args.progress.now.records c.in_ok-job.known (g.D.Disk.held c.args.disk.now) (g.D.Disk.held c.meet_on_file.new.disk) c.in_ok-pair.ensures.bytes)
    (inr c.in_ok-pair.ensures.records)

pub returns-in_err-note_step-clause-answered : goal.returns-in_err-note_step-clause-answered
returns-in_err-note_step-clause-answered g c e is =
    all_reached_here c.take_shared_job.new.runners c.args.lent.now.setup.lawful c.requires.runners c.in_ok-job.ensures.freed.long c.requires.arrived c.take_shared_job.ensures.kept c.in_err-note_step.ensures.kept

pub returns-in_err-note_step-clause-told : goal.returns-in_err-note_step-clause-told
returns-in_err-note_step-clause-told g c = told_none _ _ _ _ _ _ _ _ c.in_err-note_step.ensures.kept c.in_err-note_step.ensures.untold

-- ---- it was told, and some ranks did not hear

pub returns-in_err-hear_all-clause-begun : goal.returns-in_err-hear_all-clause-begun
returns-in_err-hear_all-clause-begun g c = begun_after c.requires.runners c.requires.met c.requires.arrived (rw c.requires.number at c.in_ok-note_step.ensures.order)

pub returns-in_err-hear_all-clause-cut : goal.returns-in_err-hear_all-clause-cut
returns-in_err-hear_all-clause-cut g c e is =
    stopped_deaf c.args.number (taken_by c.args.lent.now.setup.lawful c.requires.runners c.requires.met c.in_ok-job.ensures.batches c.in_ok-job.ensures.known)
    (memory_of c.from_residual-in_err-hear_all.result e c.from_residual-in_err-hear_all.ensures.1 is) c.in_ok-note_step.ensures.order c.in_ok-pair.ensures.bytes c.in_ok-pair.ensures.records

pub returns-in_err-hear_all-clause-answered : goal.returns-in_err-hear_all-clause-answered
returns-in_err-hear_all-clause-answered g c e is =
    let wide = table_long c.args.lent.now.setup.header.now c.args.runners.now c.in_ok-job.job.batches c.in_ok-pair.table c.requires.met c.in_ok-job.ensures.batches c.in_ok-pair.ensures.fits in
    let mid = c.in_ok-job.ensures.freed in let met = c.in_ok-pair.ensures in
    reached_deaf c.hear_all.new.runners c.args.number refl (memory_of c.from_residual-in_err-hear_all.result e c.from_residual-in_err-hear_all.ensures.1 is) c.in_ok-note_step.ensures.order (c.hear_all.auto.runners ∙ mid.long) wide c.requires.runners
    c.requires.arrived (taken_by c.args.lent.now.setup.lawful c.requires.runners c.requires.met c.in_ok-job.ensures.batches c.in_ok-job.ensures.known)
    (record { shared = met.told; count = met.records; bytes = met.bytes; got = met.got })
    (part_of_freed c.in_ok-pair.pair c.meet_on_file.new.records c.in_ok-pair.table c.args.runners.now c.take_shared_job.new.runners c.hear_all.new.runners mid.long mid c.in_err-hear_all.ensures.part)

pub returns-in_err-hear_all-clause-told : goal.returns-in_err-hear_all-clause-told
returns-in_err-hear_all-clause-told g c =
    told_meeting c.args.number (taken_by c.args.lent.now.setup.lawful c.requires.runners c.requires.met c.in_ok-job.ensures.batches c.in_ok-job.ensures.known)
    c.in_ok-note_step.ensures.order c.in_ok-note_step.ensures.heard c.in_ok-pair.ensures.records
