-- Puts with a pair come to nothing; others are laid.
use Rattle.step_plan.proofs.Words.{◌∙◌, refl, sym, ap, max, collective_windows, puts_in, setting, laid_needs, puts_needed, shared_needs, list_laid, list_shared, refused, laid, arith, nat_tests}
use Rattle.serial_spec.specs.DeviceCalls as device
use Rattle.step_plan.specs.Steps as steps
use Rattle.step_plan.proofs.PhaseLaws.{collective_calls, laid_size, refused_calls, refused_size}
use Rattle.step_plan.proofs.meeting.put_domains.Goals as goal

pub collective_domains-requires-clause-sorted : goal.collective_domains-requires-clause-sorted
collective_domains-requires-clause-sorted c = grind (arith, nat_tests, list_laid, c.in-Laid.is, c.in_ok-pair.ensures)

pub end_of-end-requires-clause-below : goal.end_of-end-requires-clause-below
end_of-end-requires-clause-below c = grind (arith, nat_tests, puts_needed, c.records_needed-needed.ensures, c.requires.puts)

-- ---- a pair

pub returns-in-Shared : goal.returns-in-Shared
returns-in-Shared c =
    let d = c.args.dataset.now in
    let s = setting d.header.now d.hints.now in
    let puts = puts_in c.args.batches.now in
    let shared = list_shared d.header.now d.hints.now.overlap 0 c.args.batches.now c.args.batches.now c.in_ok-pair.field-0 c.in-Shared.pair refl c.in-Shared.is c.in_ok-pair.ensures in
    rw c.refused.ensures (record {
      overlap = sym shared;
      domains = refused c.in-Shared.pair shared refl;
      needed = sym (shared_needs s puts c.in-Shared.pair shared);
      size = refused_size s puts c.args.size c.in-Shared.pair shared c.requires.long;
      calls = refused_calls s (collective_windows d.hints.now) puts c.args.size c.in-Shared.pair shared;
    })

-- ---- none

pub returns-in_ok-domains-in-Laid : goal.returns-in_ok-domains-in-Laid
returns-in_ok-domains-in-Laid c =
    let d = c.args.dataset.now in
    let s = setting d.header.now d.hints.now in
    let puts = puts_in c.args.batches.now in
    let needed = c.records_needed-needed.result in
    let here = list_laid d.header.now d.hints.now.overlap 0 c.args.batches.now c.args.batches.now c.in_ok-pair.field-0 c.in-Laid.list refl c.in-Laid.is c.in_ok-pair.ensures in
    record {
      overlap = sym here.0;
      domains = laid c.in-Laid.list here.0 here.1 c.in_ok-domains-in-Laid.ensures;
      needed = c.records_needed-needed.ensures ∙ sym (laid_needs s puts here.0);
      size = c.max.ensures ∙ ap (max c.args.size) c.end_of-end.ensures ∙ laid_size s puts c.args.size needed here.0 c.records_needed-needed.ensures;
      calls = grind (arith, nat_tests, collective_calls, c.requires.long, c.records_needed-needed.ensures, c.in_ok-domains-in-Laid.ensures, c.grown.ensures, c.end_of-end.ensures);
    }
