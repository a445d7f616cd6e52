use Rattle.serial_spec.proofs.Words.{◌≡◌, ℕ, refl, inl, inr, lit<, take, arith, Int, canon, DimensionOf, VariableOf, dataset_a, odd_header_a, dim, var, word}
use Rattle.std.specs.Prelude.{[], ◌∷◌, ◌++◌}
use Rattle.serial_spec.proofs.SpellingLaws.{cut}
use Rattle.serial_spec.proofs.LengthLaws.{spelling_long}
use Rattle.serial_spec.proofs.worked_headers.worked_spellings.Goals as goal

-- a name of one letter, and a length
dimension_spelled : DimensionOf 1 (dim 120 4) (word 0 0 0 1 ++ 120 ∷ 1 ∷ 2 ∷ 3 ∷ [] ++ word 0 0 0 4)
dimension_spelled = cut 8 (cut 4 (lit< tt, refl) (cut 1 refl refl)) (lit< tt, refl)

-- a name, one dimension, no attributes, a type, any vsize and a begin
variable_spelled : VariableOf 1 (record (var 118 Int (0 ∷ [])) { begin = 80 }) (word 0 0 0 1 ++ 118 ∷ 0 ∷ 0 ∷ 0 ∷ [] ++ word 0 0 0 1 ++ word 0 0 0 0 ++ word 0 0 0 0 ++ word 0 0 0 0 ++ word 0 0 0 4 ++ word 255 255 255 255 ++ word 0 0 0 80)
variable_spelled =
    cut 32
    (cut 28 (cut 24 (cut 16 (cut 12 (cut 8 (cut 4 (lit< tt, refl) (cut 1 refl refl)) (lit< tt, refl)) (cut 4 (lit< tt, refl) refl)) (inl (refl, refl))) (refl, refl)) refl)
    (lit< tt, refl)

too_short : ◌≡◌ {A = ℕ} 79 80 → ⊥
too_short h = omega (arith, h)

-- dimensions behind a tag, a tag before no attributes, and variables behind a tag
pub returns-clause-odd : goal.returns-clause-odd
unfolding canon
returns-clause-odd c = (
  refl,
  cut 36
      (cut 28
      (cut 8 (cut 4 refl (inl (lit< tt, refl))) (inr (cut 8 (cut 4 refl (lit< tt, refl)) (cut 12 dimension_spelled refl))))
      (inr (cut 8 (cut 4 refl (lit< tt, refl)) refl)))
      (inr (cut 8 (cut 4 refl (lit< tt, refl)) (cut 36 variable_spelled refl))),
)

pub returns-clause-short : goal.returns-clause-short
unfolding canon
returns-clause-short c h = too_short (spelling_long dataset_a (take 79 odd_header_a) h)
