-- The windows of the entries of the gets.
use Rattle.step_plan.proofs.Words.{lawful, arith, nat_tests}
use Rattle.step_plan.proofs.DomainLaws.{ok_so}
use Rattle.step_plan.proofs.SoloLaws.{few_alone, gets_alone}
use Rattle.step_plan.proofs.solo.get_windows.Goals as goal

pub get_list-requires-clause-few : goal.get_list-requires-clause-few
get_list-requires-clause-few c = few_alone c.args.batch.now c.from_ref.result.now c.from_ref.ensures.value c.requires.few

pub get_list-requires-clause-gets : goal.get_list-requires-clause-gets
get_list-requires-clause-gets c = gets_alone c.args.dataset.now.header.now c.args.batch.now c.from_ref.result.now c.from_ref.ensures.value c.requires.gets

pub sieved_domain-requires-clause-some : goal.sieved_domain-requires-clause-some
sieved_domain-requires-clause-some c = (lawful c.args.dataset.now.hints.now c.args.dataset.now.lawful).reads

pub returns : goal.returns
returns c = grind (arith, nat_tests, ok_so, c.from_ref.ensures.value, c.in_ok-list.ensures, c.sieved_domain.ensures)
