use Rattle.serial_spec.proofs.Words.{◌≡◌, ℕ, zero, suc, ◌<◌, refl, lit<, arith, filter, Meet, Solo, marks, concerns, two_alone}
use Rattle.std.specs.Prelude.{◌∷◌, []}
use Rattle.serial_spec.proofs.worked_steps.worked_legal.Goals as goal

each_rank : (r : ℕ) → r < 2 → filter (concerns r) (Meet 0 ∷ Solo 1 1 ∷ Solo 0 1 ∷ Meet 1 ∷ []) ≡ marks two_alone.calls r
each_rank zero h = refl
each_rank (suc zero) h = refl
each_rank (suc (suc r)) h = absurd (omega arith)

pub returns : goal.returns
returns c = record {
  legal = record { known_ranks = refl; each_rank = each_rank };
  exchanged = λ h. let e = h.each_rank 0 (lit< tt) in absurd cc;
  of_no_rank = λ h. let e = h.known_ranks in absurd cc;
  left_out = λ h. let e = h.each_rank 1 (lit< tt) in absurd cc;
}
