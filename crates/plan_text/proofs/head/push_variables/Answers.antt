use Rattle.plan_text.proofs.Cited.{arith}
use Rattle.plan_text.proofs.VariableLaws.{size_at}
use Rattle.plan_text.proofs.head.push_variables.Goals as goal

pub push_variable-requires : goal.push_variable-requires
push_variable-requires c =
    size_at c.args.header.now c.as_slice-vars.result.now c.loop-var.var-index c.var-item.result c.requires c.as_slice-vars.ensures (omega arith) c.var-item.is
