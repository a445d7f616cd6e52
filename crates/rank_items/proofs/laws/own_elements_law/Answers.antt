-- The lemma of OwnLaws.
use Rattle.rank_items.proofs.OwnLaws.{own_elements}
use Rattle.rank_items.proofs.laws.own_elements_law.Goals as goal

pub returns : goal.returns
returns c = own_elements
