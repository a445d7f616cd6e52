use Rattle.plan_text.proofs.Cited.{then_append}
use Rattle.plan_text.proofs.json.push_named.Goals as goal

pub returns : goal.returns
returns c = then_append c.args.out.now.items _ _ _ _ c.in_ok-push_bytes.ensures c.in_ok-push_text.ensures
