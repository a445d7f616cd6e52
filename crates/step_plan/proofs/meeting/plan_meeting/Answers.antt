-- The step of all ranks, by its puts and its gets.
use Rattle.step_plan.proofs.Words.{batch_gets, puts_accepted}
use Rattle.step_plan.proofs.PhaseLaws.{collective_gets}
use Rattle.step_plan.proofs.meeting.plan_meeting.Goals as goal

pub get_domains-requires-clause-gets : goal.get_domains-requires-clause-gets
get_domains-requires-clause-gets c = λ p m. (c.requires.gets p m).accepted

pub all_asked-requires-clause-accepted : goal.all_asked-requires-clause-accepted
all_asked-requires-clause-accepted c = puts_accepted c.args.dataset.now.header.now 0 c.args.batches.now c.requires.puts

pub all_asked-requires-2-clause-accepted : goal.all_asked-requires-2-clause-accepted
all_asked-requires-2-clause-accepted c = λ b p m n. batch_gets c.args.dataset.now.header.now c.args.size c.args.batches.now c.requires.gets b m p n

pub returns-clause-put_domains : goal.returns-clause-put_domains
returns-clause-put_domains c = c.in_ok-puts.ensures.domains

pub returns-clause-get_calls : goal.returns-clause-get_calls
returns-clause-get_calls c = collective_gets c.args.dataset.now.header.now c.args.dataset.now.hints.now c.args.batches.now c.in_ok-gets.gets c.in_ok-gets.ensures
