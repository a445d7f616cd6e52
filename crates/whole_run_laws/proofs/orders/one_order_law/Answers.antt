use Rattle.whole_run_laws.proofs.OneOrder.{no_step_alone, meetings_legal, no_other, one_end}
use Rattle.whole_run_laws.proofs.orders.one_order_law.Goals as goal

pub returns : goal.returns
returns c = record { no_step_alone = no_step_alone; legal = meetings_legal; no_other = no_other; one_end = one_end }
