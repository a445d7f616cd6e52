use Rattle.plan_text.proofs.Cited.{refl, digits, canon}
use Rattle.plan_text.proofs.worked_plans.worked_variable.Goals as goal

pub returns : goal.returns
unfolding digits canon
returns c = refl
