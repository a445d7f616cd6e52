use Rattle.ncmpi_cli.proofs.Words.{◌≡◌, ap, option_map, rules, Some, sym, ◌∙◌, asked_of, form_of, offsets, texts, arith, nat_tests}
use Rattle.program_words.specs.declared.command.Form.TheVariants as form
use Rattle.dataset_start.specs.declared.stop.Stop.TheVariants as stops
use Rattle.ncmpi_cli.proofs.Asking.{ends, wanting}
use Rattle.ncmpi_cli.proofs.Reading.{told_by_no_text, untold, unwatched, watched}
use Rattle.ncmpi_cli.proofs.top.ncrun.Goals as goal

pub returns-in-Ok-Some-Run-clause-ends : goal.returns-in-Ok-Some-Run-clause-ends
returns-in-Ok-Some-Run-clause-ends g c = grind (arith, nat_tests, ends, option_map, c.in-Ok-Some-Run.ensures.asked, c.run_script.ensures.ends)

pub returns-in-Ok-Some-Offsets-clause-ends : goal.returns-in-Ok-Some-Offsets-clause-ends
returns-in-Ok-Some-Offsets-clause-ends g c =
    let list = c.list_offsets.ensures in
    let is : c.in-Ok-Some-Offsets.field-0 ≡ Some (form.Offsets c.in-Ok-Some-Offsets.dataset) = search rules in
    ends (form_of (texts c.args.words.now)) (Some (offsets c.in-Ok-Some-Offsets.dataset.now)) _ _ _ _ _ _ (sym (ap (option_map asked_of) is) ∙ c.in-Ok-Some-Offsets.ensures.asked)
    (record {
      statuses = list.statuses;
      whole = list.ok;
      cut = list.cut;
      dataset = list.dataset;
      faulty = list.faulty;
      complete = list.complete;
      unchanged = list.unchanged;
      steps = list.order;
      calls = list.calls;
    })

pub returns-in-Ok-Some-Generate-clause-ends : goal.returns-in-Ok-Some-Generate-clause-ends
returns-in-Ok-Some-Generate-clause-ends g c = grind (arith, nat_tests, ends, option_map, c.in-Ok-Some-Generate.ensures.asked, c.run_made.ensures.ends)

-- words of no form
pub returns-in-Ok-None-clause-ends : goal.returns-in-Ok-None-clause-ends
returns-in-Ok-None-clause-ends g c =
    grind (arith, nat_tests, ends, option_map, c.in-Ok-None.ensures.asked, c.tell.ensures.status, c.tell.ensures.order, c.new.ensures)

-- want of memory
pub returns-in-Err-clause-ends : goal.returns-in-Err-clause-ends
returns-in-Err-clause-ends g c = grind (arith, nat_tests, wanting, c.tell-in-Err.ensures.unlined, c.tell-in-Err.ensures.order, c.new-in-Err.ensures)

-- ---- what watchers read

pub returns-in-Ok-Some-Run-clause-readings : goal.returns-in-Ok-Some-Run-clause-readings
returns-in-Ok-Some-Run-clause-readings g c = grind (arith, nat_tests, watched, option_map, c.in-Ok-Some-Run.ensures.asked, c.run_script.ensures.readings)

pub returns-in-Ok-Some-Offsets-clause-readings : goal.returns-in-Ok-Some-Offsets-clause-readings
returns-in-Ok-Some-Offsets-clause-readings g c =
    grind (arith, nat_tests, watched, option_map, unwatched, c.in-Ok-Some-Offsets.ensures.asked, c.list_offsets.ensures.readings)

pub returns-in-Ok-Some-Generate-clause-readings : goal.returns-in-Ok-Some-Generate-clause-readings
returns-in-Ok-Some-Generate-clause-readings g c =
    grind (arith, nat_tests, watched, option_map, unwatched, c.in-Ok-Some-Generate.ensures.asked, c.run_made.ensures.readings)

pub returns-in-Ok-None-clause-readings : goal.returns-in-Ok-None-clause-readings
returns-in-Ok-None-clause-readings g c = grind (arith, nat_tests, watched, option_map, unwatched, c.in-Ok-None.ensures.asked, c.tell.ensures.readings)

pub returns-in-Err-clause-readings : goal.returns-in-Err-clause-readings
returns-in-Err-clause-readings g c = grind (arith, nat_tests, untold, told_by_no_text, c.tell-in-Err.ensures.readings)
