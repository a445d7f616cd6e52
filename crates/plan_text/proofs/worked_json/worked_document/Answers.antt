use Rattle.plan_text.proofs.Cited.{refl, digits, canon}
use Rattle.plan_text.proofs.worked_json.worked_document.Goals as goal

pub returns : goal.returns
unfolding digits canon
returns c = refl
