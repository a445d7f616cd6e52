use Rattle.plan_cli.proofs.Words.{Option, List, ℕ, ap, sym, subst, read_kept, TellsPlan, held_of, name_of, wanted_of}
use Rattle.plan_cli.proofs.EndLaws.{given, stopped}
use Rattle.plan_cli.proofs.ForetoldLaws.{planned}
use Rattle.plan_cli.proofs.GivenEnds.{given_after_start, given_is_told, given_status, given_without_line}
use Rattle.plan_cli.proofs.top.give_plan.Goals as goal

pub print_plan-requires-clause-kept : goal.print_plan-requires-clause-kept
print_plan-requires-clause-kept g c = read_kept c.in-Ok.ensures.read.0 c.in-Ok.ready.script c.in-Ok.ensures.read.1

pub returns-in-Err-clause-ends : goal.returns-in-Err-clause-ends
returns-in-Err-clause-ends g c =
    stopped (wanted_of c.args.form) _ _ _ c.in-Err.stop c.tell.result c.in-Err.ensures.stopped
    (λ e. ap (λ (named : Option (List ℕ)). held_of g.D.DatasetFront named c.args.dataset.now) e) c.in-Err.ensures.few c.tell.ensures.status c.tell.ensures.line

pub returns-in-Ok-print_plan-clause-ends : goal.returns-in-Ok-print_plan-clause-ends
returns-in-Ok-print_plan-clause-ends g c =
    let left = g.S.Source.left c.args.script.now in
    let held = held_of g.D.DatasetFront (name_of c.args.form.dataset) c.args.dataset.now in
    let own = c.in-Ok.ensures in
    let ready = c.in-Ok.ready in
    let text : List ℕ = c.as_slice.result.now in
    let tells : TellsPlan c.args.form.json ready.script ready.dataset.header ready.dataset.opening text =
    subst (λ (t : List ℕ). TellsPlan c.args.form.json ready.script ready.dataset.header ready.dataset.opening t) (sym c.as_slice.ensures) c.in-Ok-print_plan.ensures in
    given (wanted_of c.args.form) _ _ _ c.give.result text ready.script own.asks own.opening.faultless
    (planned c.args.form.json left (g.S.Source.left c.begin.new.source) held ready.script ready.dataset.header ready.dataset.opening text own.asks own.taken own.opening tells)
    own.few c.give.ensures.statuses c.give.ensures.whole c.give.ensures.front c.give.ensures.sink

pub returns-in-Ok-print_plan-clause-statuses : goal.returns-in-Ok-print_plan-clause-statuses
returns-in-Ok-print_plan-clause-statuses g c = given_status c.give.result c.give.ensures.statuses

pub returns-in-Ok-print_plan-clause-not_started : goal.returns-in-Ok-print_plan-clause-not_started
returns-in-Ok-print_plan-clause-not_started g c = λ s. absurd (given_after_start c.give.result c.give.ensures.statuses s)

pub returns-in-Ok-print_plan-clause-silent : goal.returns-in-Ok-print_plan-clause-silent
returns-in-Ok-print_plan-clause-silent g c = λ s. absurd (given_is_told c.give.result c.give.ensures.statuses s)

pub returns-in-Ok-print_plan-clause-told : goal.returns-in-Ok-print_plan-clause-told
returns-in-Ok-print_plan-clause-told g c = given_without_line c.give.result c.give.ensures.statuses _
