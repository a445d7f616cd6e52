use Rattle.ncmpi_cli.proofs.Words.{◌≡◌, ◌∙◌, inl, inr, refl, subst, sym, true, ℕ, Some, arith, rules, RunEnd, Script, has_counts, Output, output_at, rose_before, nat_tests}
use Rattle.nc_base.specs.declared.step.StepErr.TheVariants as fault
use Rattle.ncmpi_cli.proofs.CutOff.{made_cut}
use Rattle.ncmpi_cli.proofs.Made.{made_begins, made_begins_none, made_counts, made_kept, made_ran, made_wants}
use Rattle.ncmpi_cli.proofs.Reading.{told_by_no_text}
use Rattle.ncmpi_cli.proofs.Statuses.{ended_line, seven_disk, told_line}
use Rattle.ncmpi_cli.proofs.Telling.{made_end, no_disk, whole_or_memory}
use Rattle.ncmpi_cli.proofs.made_run.run_made.Goals as goal

pub run_ranks-end-requires-clause-lawful : goal.run_ranks-end-requires-clause-lawful
run_ranks-end-requires-clause-lawful g c = grind (arith, nat_tests, made_kept, c.in-Ok.ensures.script)

pub sum_up-outcome-requires-clause-counted : goal.sum_up-outcome-requires-clause-counted
sum_up-outcome-requires-clause-counted g c = subst (λ (s : Script). has_counts s ≡ true) (sym c.in-Ok.ensures.script) (made_counts c.args.seed c.args.size)

-- ---- where the ranks didn't begin

pub returns-in-Err : goal.returns-in-Err
returns-in-Err g c =
    grind (arith, nat_tests, c.tell.ensures.status, c.in-Err.ensures.only, told_by_no_text c.in-Err.stop c.tell.result.status c.tell.ensures.status, made_wants c.in-Err.stop c.tell.result.status c.tell.ensures.status c.in-Err.ensures.only, made_begins_none c.args.seed c.args.size c.tell.result.order (c.tell.ensures.order ∙ c.new.ensures), seven_disk c.in-Err.stop c.tell.result.status c.tell.ensures.status, told_line, c.in-Err.ensures, c.in-Err.ensures.laid, c.in-Err.ensures.disk, c.in-Err.ensures.torn, c.tell.ensures.silent, c.tell.ensures.readings, c.tell.ensures.line)

-- ---- where their run ended without a fault

pub returns-in-None : goal.returns-in-None
returns-in-None g c =
    let seed : ℕ = c.args.seed in
    let size : ℕ = c.args.size in
    let own = c.in-Ok.ensures in
    let end : RunEnd = c.run_ranks-end.result in
    let run = c.run_ranks-end.ensures.run in
    let summed = c.sum_up-outcome.ensures in
    let status : ℕ = c.sum_up-outcome.result.status in
    let before : Output = output_at g.D.Disk g.K.Sink c.args.disk.now c.args.out.now in
    let now : Output = output_at g.D.Disk g.K.Sink c.run_ranks-end.new.disk c.sum_up-outcome.new.out in
    let did = made_ran seed size c.in-Ok.ready.script c.in-Ok.ready.header before now _ _ _ _ c.run_ranks-end.new.records end c.sum_up-outcome.result.order own.script own.ready summed.order run c.in-None.is in
    record {
      ends = record {
        statuses = made_end status summed.statuses;
        well = λ s. record { text = _; ran = did; given = summed.whole s };
        cut = λ s. record { text = _; count = (summed.front s).0; ran = did; given = (summed.front s).1 };
        complete = λ sink _. whole_or_memory status summed.statuses (λ s. sink (summed.sink s));
        steps = made_begins seed size c.in-Ok.ready.script _ end.order own.script summed.order run.begun;
        torn = λ s. no_disk status summed.statuses s;
        wanting = λ _. inr (_, did);
      };
      statuses = made_end status summed.statuses;
      sink = summed.sink;
      disk = λ s. no_disk status summed.statuses s;
      silent = summed.silent;
      readings = summed.readings;
      told = ended_line _ status summed.statuses;
    }

-- ---- where the disk failed

pub returns-in-Some-Disk-clause-disk : goal.returns-in-Some-Disk-clause-disk
returns-in-Some-Disk-clause-disk g c = grind (arith, nat_tests, rose_before, c.in-Ok.ensures.later, c.run_ranks-end.ensures.run.fault)

pub returns-in-Some-Disk-clause-ends : goal.returns-in-Some-Disk-clause-ends
returns-in-Some-Disk-clause-ends g c =
    let seed : ℕ = c.args.seed in
    let size : ℕ = c.args.size in
    let own = c.in-Ok.ensures in
    let end : RunEnd = c.run_ranks-end.result in
    let run = c.run_ranks-end.ensures.run in
    let same = c.tell-in-Some-Disk.ensures.order ∙ c.order_of.ensures in
    let is : c.tell-in-Some-Disk.result.status ≡ 7 = c.tell-in-Some-Disk.ensures.fixed refl in
    let before : Output = output_at g.D.Disk g.K.Sink c.args.disk.now c.args.out.now in
    let now : Output = output_at g.D.Disk g.K.Sink c.run_ranks-end.new.disk c.tell-in-Some-Disk.new.out in
    let failed : c.run_ranks-end.result.fault ≡ Some fault.Disk = search rules in
    record {
      statuses = inr (inr (inl is));
      well = λ s. absurd (omega (arith, is, s));
      cut = λ s. absurd (omega (arith, is, s));
      complete = λ _ disk. absurd (disk (rose_before _ (g.D.Disk.faults c.begin_made.new.disk) _ own.later (run.fault failed)));
      steps = made_begins seed size c.in-Ok.ready.script _ end.order own.script same run.begun;
      torn = λ _. inr (made_cut seed size fault.Disk c.in-Ok.ready.script c.in-Ok.ready.header before now _ _ c.tell-in-Some-Disk.result.order c.run_ranks-end.new.records end
          own.script own.ready same failed run.cut);
      wanting = λ s. absurd (omega (arith, is, s));
    }

-- ---- where memory was wanting

pub returns-in-Some-Memory-clause-ends : goal.returns-in-Some-Memory-clause-ends
returns-in-Some-Memory-clause-ends g c =
    let seed : ℕ = c.args.seed in
    let size : ℕ = c.args.size in
    let own = c.in-Ok.ensures in
    let end : RunEnd = c.run_ranks-end.result in
    let run = c.run_ranks-end.ensures.run in
    let same = c.tell-in-Some-Memory.ensures.order ∙ c.order_of-in-Some-Memory.ensures in
    let is : c.tell-in-Some-Memory.result.status ≡ 8 = (c.tell-in-Some-Memory.ensures.unlined refl).0 in
    let before : Output = output_at g.D.Disk g.K.Sink c.args.disk.now c.args.out.now in
    let now : Output = output_at g.D.Disk g.K.Sink c.run_ranks-end.new.disk c.tell-in-Some-Memory.new.out in
    let failed : c.run_ranks-end.result.fault ≡ Some fault.Memory = search rules in
    record {
      statuses = inr (inr (inr is));
      well = λ s. absurd (omega (arith, is, s));
      cut = λ s. absurd (omega (arith, is, s));
      complete = λ _ _. inr is;
      steps = made_begins seed size c.in-Ok.ready.script _ end.order own.script same run.begun;
      torn = λ s. absurd (omega (arith, is, s));
      wanting = λ _. inl (inr (made_cut seed size fault.Memory c.in-Ok.ready.script c.in-Ok.ready.header before now _ _ c.tell-in-Some-Memory.result.order
          c.run_ranks-end.new.records end own.script own.ready same failed run.cut));
    }
