use Rattle.plan_cli.proofs.Words.{IfOk-weaker, held_of, name_of}
use Rattle.plan_cli.proofs.StopLaws.{unlaid}
use Rattle.plan_cli.proofs.start.prepare.Goals as goal

pub returns-then-script-clause-opening : goal.returns-then-script-clause-opening
returns-then-script-clause-opening g c =
    IfOk-weaker c.create.result _ _ (λ p h. h (held_of g.D.DatasetFront (name_of c.args.name) c.args.dataset.now)) c.create.ensures.opening

pub returns-then-script-clause-stopped : goal.returns-then-script-clause-stopped
returns-then-script-clause-stopped g c =
    unlaid c.args.script.now (held_of g.D.DatasetFront (name_of c.args.name) c.args.dataset.now) (name_of c.args.name) _ c.create.result c.if-script.true
    c.create.ensures.refused c.create.ensures.only
