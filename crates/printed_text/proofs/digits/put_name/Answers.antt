use Rattle.printed_text.proofs.DigitLaws.{name_put}
use Rattle.printed_text.proofs.digits.put_name.Goals as goal

pub returns : goal.returns
returns c = name_put c.args.var.now c.args.index.now c.insert.new.self c.as_slice.result c.digits_of.result c.as_slice.ensures c.digits_of.ensures c.in_ok-insert.ensures.updates
