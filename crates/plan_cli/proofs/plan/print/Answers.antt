use Rattle.plan_cli.proofs.Words.{document}
use Rattle.plan_cli.proofs.plan.print.Goals as goal

pub returns-then-json : goal.returns-then-json
unfolding document
returns-then-json c = rw c.if-json.true c.plan_json.ensures

pub returns-else-json : goal.returns-else-json
unfolding document
returns-else-json c = rw c.if-json.false c.plan_text.ensures
