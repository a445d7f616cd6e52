use Rattle.script_spelling.proofs.Words.{[], ◌∷◌, refl, arith}
use Rattle.script_spelling.proofs.worked_lines.worked_order.Goals as goal

pub returns : goal.returns
returns c = record {
  before = ((refl, omega arith, refl), ((refl, omega arith, omega arith, (0 ∷ [], refl, refl)), tt));
  behind = λ h. let found = h.0.3.1 in absurd (cc);
  opened = ((refl, omega arith, omega arith, refl), tt);
  twice = λ h. let fresh = h.1.0.0 in absurd (cc);
}
