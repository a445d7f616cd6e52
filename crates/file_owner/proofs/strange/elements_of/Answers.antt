use Rattle.file_owner.proofs.Words.{ℕ, List, ap, arith, product}
use Rattle.file_owner.proofs.strange.elements_of.Goals as goal

pub returns : goal.returns
returns c = let counted = ap (λ (l : List ℕ). product l) c.as_slice.ensures in omega (arith, c.element_count.ensures, counted, c.requires)
