use Rattle.ncmpi_cli.proofs.Words.{◌≡◌, ◌∙◌, ap, inl, inr, refl, List, [], length, ℕ, Some, arith, rules, Err, RunEnd, Script, Stop, read_lawful, not_mislaid, not_unread, not_wrong, pairs_of, readings_of, rose_before, nat_tests}
use Rattle.nc_base.specs.declared.step.StepErr.TheVariants as fault
use Rattle.dataset_start.specs.declared.stop.Stop.TheVariants as stops
use Rattle.ncmpi_cli.proofs.CutOff.{cut_off}
use Rattle.ncmpi_cli.proofs.Ran.{have_begun, nobody_read, ran}
use Rattle.ncmpi_cli.proofs.Reading.{read, told_by_no_text, untold}
use Rattle.ncmpi_cli.proofs.Statuses.{before_start, ended_late, ended_line, ended_status, five_source, four_untouched, seven_disk, silent_end, silent_stop, stop_status, told_line, two_usage}
use Rattle.ncmpi_cli.proofs.Telling.{dataset, faulty, mislaid, no_disk, refused, told_script, wants_memory, whole_or_memory, IsToldBy}
use Rattle.ncmpi_cli.proofs.script_run.run_script.Goals as goal

pub run_beside-run-requires-clause-lawful : goal.run_beside-run-requires-clause-lawful
run_beside-run-requires-clause-lawful g c = λ _ _. read_lawful c.in-Ok.ensures.read.0 c.in-Ok.ready.script c.in-Ok.ensures.read.1

-- ---- where the ranks didn't begin

pub returns-in-Err : goal.returns-in-Err
returns-in-Err g c =
    let left = g.S.Source.left c.args.script.now in
    let held = g.D.Disk.held c.args.disk.now in
    let stop : Stop = c.in-Err.stop in
    let status : ℕ = c.tell.result.status in
    let told = c.tell.ensures.status in
    let own = c.in-Err.ensures in
    let none : c.tell.result.order ≡ [] = c.tell.ensures.order ∙ c.new.ensures in
    let formed : stop ≡ stops.Usage → ⊥ = λ x. own.formed (ap (λ (s : Stop). Err s) x) in
    let faulted : IsToldBy left stop = λ e x. own.refused e (ap (λ (s : Stop). Err s) x) in
    record {
      ends = grind (arith, nat_tests, told_by_no_text stop status told, told_script left stop status told faulted c.tell.ensures.line, dataset left held stop status told own.bad c.tell.ensures.line, refused left held stop status told formed, mislaid left held stop status told formed, faulty left held stop status told formed, wants_memory left held stop status told formed);
      readings = untold c.args.watchers status (length c.tell.result.order) c.tell.result.readings (told_by_no_text stop status told) c.tell.ensures.readings;
      statuses = stop_status stop status told;
      formed = λ s. formed (two_usage stop status told s);
      source = λ s. own.source (ap (λ (s : Stop). Err s) (five_source stop status told s));
      sink = λ s. absurd (told_by_no_text stop status told (inr s));
      disk = λ s. own.disk (ap (λ (s : Stop). Err s) (seven_disk stop status told s));
      not_started = before_start stop status told own.not_started;
      unchanged = four_untouched stop status told own.unchanged;
      silent = silent_stop stop status told c.tell.ensures.unlined c.tell.ensures.silent;
      no_step = λ _. none;
      told = told_line _ stop status told c.tell.ensures.line;
    }

-- ---- where their run ended without a fault

pub returns-in-None : goal.returns-in-None
returns-in-None g c =
    let left = g.S.Source.left c.args.script.now in
    let held = g.D.Disk.held c.args.disk.now in
    let mid = g.D.Disk.held c.begin.new.disk in
    let calls = g.D.Disk.calls c.begin.new.disk in
    let own = c.in-Ok.ensures in
    let script : Script = c.in-Ok.ready.script in
    let end : RunEnd = c.run_beside-run.result.end in
    let run = c.run_beside-run.ensures.run in
    let opening : ℕ = c.in-Ok.ready.header.records in
    let pairs : List (List (ℕ × ℕ)) = pairs_of opening c.run_beside-run.result.seen in
    let readings : List (List ℕ) = readings_of c.run_beside-run.result.seen in
    let finished = c.finish-outcome.ensures in
    let status : ℕ = c.finish-outcome.result.status in
    record {
      ends = record {
        well = λ s. record {
          text = _;
          ran = ran script c.in-Ok.ready.header _ _ mid calls _ _ c.run_beside-run.new.records end c.finish-outcome.result.order c.finish-outcome.result.readings readings pairs
              own.asks own.ready own.taken run c.in-None.is finished.order (finished.readings (inl s)) c.run_beside-run.ensures.counted;
          given = finished.whole s;
        };
        cut = λ s. record {
          text = _;
          count = (finished.front s).0;
          ran = ran script c.in-Ok.ready.header _ _ mid calls _ _ c.run_beside-run.new.records end c.finish-outcome.result.order c.finish-outcome.result.readings readings pairs
              own.asks own.ready own.taken run c.in-None.is finished.order (finished.readings (inr s)) c.run_beside-run.ensures.counted;
          given = (finished.front s).1;
        };
        taken = own.few;
        script = λ s. ended_late status finished.statuses (inl (inr (inl s)));
        dataset = λ s. ended_late status finished.statuses (inr s);
        refused = λ asks _. not_unread left script own.asks asks;
        mislaid = λ asks _. not_mislaid left held script own.asks own.ready.faultless asks;
        unlaid = not_mislaid left held script own.asks own.ready.faultless;
        faulty = λ asks _ _. not_wrong left held script own.asks own.ready.faultless asks;
        complete = λ _ _ sink _. whole_or_memory status finished.statuses (λ s. sink (finished.sink s));
        began = inr (have_begun script c.in-Ok.ready.header _ _ mid calls _ end.order own.asks own.ready own.taken finished.order run.begun);
        unread = λ asks. not_unread left script own.asks asks;
        unfit = λ asks. not_wrong left held script own.asks own.ready.faultless asks;
        torn = λ s. no_disk status finished.statuses s;
        wanting = λ _. inr (
          _,
          ran script c.in-Ok.ready.header _ _ mid calls _ _ c.run_beside-run.new.records end c.finish-outcome.result.order [] [] []
              own.asks own.ready own.taken run c.in-None.is finished.order refl (nobody_read mid),
        );
      };
      readings = read c.args.watchers status c.finish-outcome.result.order end.order c.finish-outcome.result.readings c.run_beside-run.result.seen
          finished.statuses finished.order finished.seen finished.readings finished.none c.run_beside-run.ensures.readings;
      statuses = ended_status status finished.statuses;
      formed = λ s. ended_late status finished.statuses (inl (inl s));
      source = λ s. ended_late status finished.statuses (inl (inr (inr s)));
      sink = finished.sink;
      disk = λ s. no_disk status finished.statuses s;
      not_started = λ s. ended_late status finished.statuses (inl s);
      unchanged = λ s. ended_late status finished.statuses (inr s);
      silent = silent_end status finished.statuses finished.silent;
      no_step = λ s. ended_late status finished.statuses s;
      told = ended_line _ status finished.statuses;
    }

-- ---- where the disk failed

pub returns-in-Some-Disk-clause-disk : goal.returns-in-Some-Disk-clause-disk
returns-in-Some-Disk-clause-disk g c = grind (arith, nat_tests, rose_before, c.in-Ok.ensures.later, c.run_beside-run.ensures.run.fault)

pub returns-in-Some-Disk-clause-ends : goal.returns-in-Some-Disk-clause-ends
returns-in-Some-Disk-clause-ends g c =
    let left = g.S.Source.left c.args.script.now in
    let held = g.D.Disk.held c.args.disk.now in
    let own = c.in-Ok.ensures in
    let script : Script = c.in-Ok.ready.script in
    let end : RunEnd = c.run_beside-run.result.end in
    let run = c.run_beside-run.ensures.run in
    let same = c.tell-in-Some-Disk.ensures.order ∙ c.into_order.ensures in
    let is : c.tell-in-Some-Disk.result.status ≡ 7 = c.tell-in-Some-Disk.ensures.fixed refl in
    let failed : c.run_beside-run.result.end.fault ≡ Some fault.Disk = search rules in
    record {
      well = λ s. absurd (omega (arith, is, s));
      cut = λ s. absurd (omega (arith, is, s));
      taken = own.few;
      script = λ s. absurd (omega (arith, is, s));
      dataset = λ s. absurd (omega (arith, is, s));
      refused = λ asks _. not_unread left script own.asks asks;
      mislaid = λ asks _. not_mislaid left held script own.asks own.ready.faultless asks;
      unlaid = not_mislaid left held script own.asks own.ready.faultless;
      faulty = λ asks _ _. not_wrong left held script own.asks own.ready.faultless asks;
      complete = λ _ _ _ disk. absurd (disk (rose_before _ (g.D.Disk.faults c.begin.new.disk) _ own.later (run.fault failed)));
      began = inr (have_begun script c.in-Ok.ready.header _ _ _ _ _ end.order own.asks own.ready own.taken same run.begun);
      unread = λ asks. not_unread left script own.asks asks;
      unfit = λ asks. not_wrong left held script own.asks own.ready.faultless asks;
      torn = λ _. inr (cut_off fault.Disk script c.in-Ok.ready.header _ _ _ _ c.tell-in-Some-Disk.result.order c.run_beside-run.new.records end
          own.asks own.ready own.taken same run.begun failed run.cut);
      wanting = λ s. absurd (omega (arith, is, s));
    }

-- ---- where memory was wanting

pub returns-in-Some-Memory-clause-ends : goal.returns-in-Some-Memory-clause-ends
returns-in-Some-Memory-clause-ends g c =
    let left = g.S.Source.left c.args.script.now in
    let held = g.D.Disk.held c.args.disk.now in
    let own = c.in-Ok.ensures in
    let script : Script = c.in-Ok.ready.script in
    let end : RunEnd = c.run_beside-run.result.end in
    let run = c.run_beside-run.ensures.run in
    let same = c.tell-in-Some-Memory.ensures.order ∙ c.into_order-in-Some-Memory.ensures in
    let is : c.tell-in-Some-Memory.result.status ≡ 8 = (c.tell-in-Some-Memory.ensures.unlined refl).0 in
    let failed : c.run_beside-run.result.end.fault ≡ Some fault.Memory = search rules in
    record {
      well = λ s. absurd (omega (arith, is, s));
      cut = λ s. absurd (omega (arith, is, s));
      taken = own.few;
      script = λ s. absurd (omega (arith, is, s));
      dataset = λ s. absurd (omega (arith, is, s));
      refused = λ _ _. inr is;
      mislaid = λ _ _. inr is;
      unlaid = not_mislaid left held script own.asks own.ready.faultless;
      faulty = λ _ _ _. inr is;
      complete = λ _ _ _ _. inr is;
      began = inr (have_begun script c.in-Ok.ready.header _ _ _ _ _ end.order own.asks own.ready own.taken same run.begun);
      unread = λ asks. not_unread left script own.asks asks;
      unfit = λ asks. not_wrong left held script own.asks own.ready.faultless asks;
      torn = λ s. absurd (omega (arith, is, s));
      wanting = λ _. inl (inr (cut_off fault.Memory script c.in-Ok.ready.header _ _ _ _ c.tell-in-Some-Memory.result.order c.run_beside-run.new.records end
          own.asks own.ready own.taken same run.begun failed run.cut));
    }

-- ---- what watchers read

pub returns-in-Some-Disk-clause-readings : goal.returns-in-Some-Disk-clause-readings
returns-in-Some-Disk-clause-readings g c = grind (arith, nat_tests, untold, told_by_no_text, c.tell-in-Some-Disk.ensures.readings)

pub returns-in-Some-Memory-clause-readings : goal.returns-in-Some-Memory-clause-readings
returns-in-Some-Memory-clause-readings g c = grind (arith, nat_tests, untold, told_by_no_text, c.tell-in-Some-Memory.ensures.readings)
