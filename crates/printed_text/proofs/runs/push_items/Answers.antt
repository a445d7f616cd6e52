use Rattle.printed_text.proofs.Cited.{◌+◌, refl, arith, item_line}
use Rattle.printed_text.proofs.WordLaws.{next_pushed}
use Rattle.printed_text.proofs.runs.push_items.Goals as goal

pub loop-item-preserved : goal.loop-item-preserved
loop-item-preserved c =
    next_pushed (item_line c.args.digits.now.0 c.args.digits.now.1) c.args.out.now.items c.loop-item.out.items c.push_item.new.out.items c.args.items.now
    c.loop-item.item-index (c.loop-item.item-index + 1) c.item-item.result (omega arith) c.item-item.is refl c.loop-item.invariant c.in_ok-push_item.ensures
