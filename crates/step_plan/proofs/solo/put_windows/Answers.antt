-- Puts with a pair come to nothing; others are laid.
use Rattle.step_plan.proofs.Words.{◌∙◌, sym, ap, max, sieving_windows, puts_of_batch, setting, laid_needs, lawful, puts_needed, shared_needs, own_puts, own_once, own_shared, refl, arith, nat_tests}
use Rattle.serial_spec.specs.DeviceCalls as device
use Rattle.step_plan.specs.Phases.HavePutWindows.{refused, laid}
use Rattle.step_plan.specs.Steps as steps
use Rattle.step_plan.proofs.PhaseLaws.{laid_size, refused_calls, refused_size, sieved_calls}
use Rattle.step_plan.proofs.SoloLaws.{few_alone, own_laid, own_list, own_needs}
use Rattle.step_plan.proofs.solo.put_windows.Goals as goal

pub put_list-requires-clause-few : goal.put_list-requires-clause-few
put_list-requires-clause-few c = few_alone c.args.batch.now c.from_ref.result.now c.from_ref.ensures.value c.requires.few

pub put_list-requires-clause-own : goal.put_list-requires-clause-own
put_list-requires-clause-own c = own_once c.args.dataset.now.header.now c.args.rank c.args.batch.now c.from_ref.result.now c.from_ref.ensures.value c.requires.own

pub put_list-requires-clause-puts : goal.put_list-requires-clause-puts
put_list-requires-clause-puts c = own_list c.args.dataset.now.header.now c.args.rank c.args.batch.now c.from_ref.result.now c.from_ref.ensures.value c.requires.puts

pub sieved_domain-requires-clause-some : goal.sieved_domain-requires-clause-some
sieved_domain-requires-clause-some c = (lawful c.args.dataset.now.hints.now c.args.dataset.now.lawful).writes

pub records_needed_by-needed-requires : goal.records_needed_by-needed-requires
records_needed_by-needed-requires c =
    grind (arith, nat_tests, own_puts c.args.dataset.now.header.now c.args.rank c.args.batch.now c.requires.puts, c.as_slice.ensures)

pub sieved_domain-requires-clause-sorted : goal.sieved_domain-requires-clause-sorted
sieved_domain-requires-clause-sorted c = grind (arith, nat_tests, own_laid, c.from_ref.ensures.value, c.in-Laid.is, c.in_ok-pair.ensures)

pub end_of-end-requires-clause-below : goal.end_of-end-requires-clause-below
end_of-end-requires-clause-below c =
    rw (own_needs c.args.dataset.now.header.now c.args.rank c.args.batch.now c.as_slice.result.now c.records_needed_by-needed.result c.as_slice.ensures c.records_needed_by-needed.ensures) (puts_needed c.args.dataset.now.header.now (puts_of_batch (c.args.rank, c.args.batch.now)) c.args.dataset.now.sound c.requires.puts).1

-- ---- a pair

pub returns-in-Shared : goal.returns-in-Shared
returns-in-Shared c =
    let d = c.args.dataset.now in
    let s = setting d.header.now d.hints.now in
    let puts = puts_of_batch (c.args.rank, c.args.batch.now) in
    let shared = own_shared d.header.now d.hints.now.overlap c.args.rank c.args.batch.now c.from_ref.result.now c.in_ok-pair.field-0 c.in-Shared.pair c.from_ref.ensures.value c.in-Shared.is c.in_ok-pair.ensures in
    rw c.refused.ensures (record {
      overlap = sym shared;
      windows = refused c.in-Shared.pair shared refl;
      needed = sym (shared_needs s puts c.in-Shared.pair shared);
      size = refused_size s puts c.args.size c.in-Shared.pair shared c.requires.long;
      calls = refused_calls s (sieving_windows d.hints.now.wr_buffer) puts c.args.size c.in-Shared.pair shared;
    })

-- ---- none

pub returns-in_ok-domains-in-Laid : goal.returns-in_ok-domains-in-Laid
returns-in_ok-domains-in-Laid c =
    let d = c.args.dataset.now in
    let s = setting d.header.now d.hints.now in
    let puts = puts_of_batch (c.args.rank, c.args.batch.now) in
    let needed = c.records_needed_by-needed.result in
    let here = own_laid d.header.now d.hints.now.overlap c.args.rank c.args.batch.now c.from_ref.result.now c.in_ok-pair.field-0 c.in-Laid.list c.from_ref.ensures.value c.in-Laid.is c.in_ok-pair.ensures in
    let needs = own_needs d.header.now c.args.rank c.args.batch.now c.as_slice.result.now needed c.as_slice.ensures c.records_needed_by-needed.ensures in
    record {
      overlap = sym here.0;
      windows = laid c.in-Laid.list here.0 here.1 c.in_ok-domains-in-Laid.ensures;
      needed = needs ∙ sym (laid_needs s puts here.0);
      size = c.max.ensures ∙ ap (max c.args.size) c.end_of-end.ensures ∙ laid_size s puts c.args.size needed here.0 needs;
      calls = grind (arith, nat_tests, sieved_calls, c.requires.long, c.in_ok-domains-in-Laid.ensures, c.grown.ensures, c.end_of-end.ensures);
    }
