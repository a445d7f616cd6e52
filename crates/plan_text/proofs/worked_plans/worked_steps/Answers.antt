use Rattle.plan_text.proofs.Cited.{refl, digits}
use Rattle.plan_text.proofs.worked_plans.worked_steps.Goals as goal

pub returns-clause-record : goal.returns-clause-record
unfolding digits
returns-clause-record c = refl

pub returns-clause-overlap : goal.returns-clause-overlap
unfolding digits
returns-clause-overlap c = refl

pub returns-clause-answer : goal.returns-clause-answer
unfolding digits
returns-clause-answer c = refl

pub returns-clause-code : goal.returns-clause-code
unfolding digits
returns-clause-code c = refl
