-- The step of one rank, by its puts and its gets.
use Rattle.step_plan.proofs.Words.{arith, nat_tests}
use Rattle.step_plan.proofs.PhaseLaws.{sieved_gets}
use Rattle.step_plan.proofs.SoloLaws.{get_alone, put_alone}
use Rattle.step_plan.proofs.solo.plan_solo.Goals as goal

pub get_windows-requires-clause-gets : goal.get_windows-requires-clause-gets
get_windows-requires-clause-gets c = λ p m. (c.requires.gets p m).accepted

pub all_asked-requires-clause-accepted : goal.all_asked-requires-clause-accepted
all_asked-requires-clause-accepted c =
    put_alone c.args.dataset.now.header.now c.args.rank c.args.batch.now c.from_ref-batches.result.now c.from_ref-batches.ensures.value c.requires.puts

pub all_asked-requires-2-clause-accepted : goal.all_asked-requires-2-clause-accepted
all_asked-requires-2-clause-accepted c =
    get_alone c.args.dataset.now.header.now c.args.size c.args.batch.now c.from_ref-batches.result.now c.from_ref-batches.ensures.value c.requires.gets

pub returns-clause-asked_put : goal.returns-clause-asked_put
returns-clause-asked_put c = grind (arith, nat_tests, c.in_ok-asked_put.ensures, c.from_ref-batches.ensures.value)

pub returns-clause-asked_get : goal.returns-clause-asked_get
returns-clause-asked_get c = grind (arith, nat_tests, c.in_ok-asked_get.ensures, c.from_ref-batches.ensures.value)

pub returns-clause-put_windows : goal.returns-clause-put_windows
returns-clause-put_windows c = c.in_ok-puts.ensures.windows

pub returns-clause-get_calls : goal.returns-clause-get_calls
returns-clause-get_calls c = sieved_gets c.args.dataset.now.header.now c.args.dataset.now.hints.now c.args.rank c.args.batch.now c.in_ok-gets.gets c.in_ok-gets.ensures
