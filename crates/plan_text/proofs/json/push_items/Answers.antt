use Rattle.plan_text.proofs.Cited.{arith}
use Rattle.plan_text.proofs.ArrayLaws.{item_pushed}
use Rattle.plan_text.proofs.json.push_items.Goals as goal

pub loop-number-preserved : goal.loop-number-preserved
loop-number-preserved g c =
    item_pushed g.T.ArrayItem.value c.push.new.self.items c.loop-number.out.items c.push_comma.new.out.items c.push_item.new.out.items c.args.items.now c.loop-number.number c.index-items-number.result
    (omega arith) c.index-items-number.is c.loop-number.invariant c.in_ok-push_comma.ensures c.in_ok-push_item.ensures
