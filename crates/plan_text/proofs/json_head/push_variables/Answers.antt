use Rattle.plan_text.proofs.Cited.{arith, variable_object}
use Rattle.plan_text.proofs.ArrayLaws.{item_pushed}
use Rattle.plan_text.proofs.VariableLaws.{size_at}
use Rattle.plan_text.proofs.json_head.push_variables.Goals as goal

pub push_variable-requires : goal.push_variable-requires
push_variable-requires c =
    size_at c.args.header.now c.as_slice-vars.result.now c.loop-number.number c.index-vars-number.result c.requires c.as_slice-vars.ensures (omega arith) c.index-vars-number.is

pub loop-number-preserved : goal.loop-number-preserved
loop-number-preserved c =
    item_pushed (variable_object c.args.header.now) c.push.new.self.items c.loop-number.out.items c.push_comma.new.out.items c.push_variable.new.out.items c.as_slice-vars.result.now c.loop-number.number c.index-vars-number.result
    (omega arith) c.index-vars-number.is c.loop-number.invariant c.in_ok-push_comma.ensures c.in_ok-push_variable.ensures
