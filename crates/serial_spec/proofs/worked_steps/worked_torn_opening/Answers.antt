use Rattle.serial_spec.proofs.Words.{◌≡◌, ◌<◌, ℕ, refl, inl, inr, ◌⊎◌, lit<, arith, ap, true, List, [], ◌∷◌, ◌++◌, length, take, replicate, ◌==◌, or_cases, eqb-true, file_a, dataset_aq, file_halves, header_a, int_bytes, at, canon}
use Rattle.std.specs.Prelude.{◌||◌}
use Rattle.serial_spec.proofs.EachBelow.{each_below}
use Rattle.serial_spec.proofs.worked_steps.worked_torn_opening.Goals as goal

one_of_two : (byte first second : ℕ) → (byte == first || byte == second) ≡ true → (byte ≡ first) ⊎ (byte ≡ second)
one_of_two byte first second h = elim (or_cases (byte == first) _ h) [ inl e ↦ inl (eqb-true byte first e) | inr e ↦ inr (eqb-true byte second e) ]

two_lengths : ◌≡◌ {A = ℕ} 96 3 → ⊥
two_lengths h = omega (arith, h)

one_is_zero : ◌≡◌ {A = ℕ} 1 0 → ⊥
one_is_zero h = omega (arith, h)

nine_is_zero : ◌≡◌ {A = ℕ} 9 0 ⊎ ◌≡◌ {A = ℕ} 9 0 ⊎ ◌≡◌ {A = ℕ} 9 0 → ⊥
nine_is_zero h = omega (arith, h)

nine_is_none : ◌≡◌ {A = ℕ} 9 80 ⊎ ◌≡◌ {A = ℕ} 9 116 → ⊥
nine_is_none h = omega (arith, h)

-- a file that is created
abbrev half_header : List ℕ
half_header = take 40 header_a ++ replicate 56 0

begun_as : (x : ℕ) → x < 96 → (at half_header x ≡ 0) ⊎ (at half_header x ≡ at header_a x) ⊎ (at half_header x ≡ at (file_a (0 ∷ 0 ∷ 0 ∷ 0 ∷ [])) x)
begun_as x low = elim (one_of_two _ _ _ (each_below (λ y. at half_header y == 0 || at half_header y == at header_a y) 96 refl x low)) [ inl e ↦ inl e | inr e ↦ inr (inl e) ]

-- a file that is redefined
abbrev grown : List ℕ
grown = file_halves ++ replicate 44 0

abbrev redefined_a : List ℕ
redefined_a = canon dataset_aq ++ int_bytes (1 ∷ 2 ∷ 3 ∷ 4 ∷ []) ++ replicate 8 0

head_as : (x : ℕ) → x < 116 → (at grown x ≡ at file_halves x) ⊎ (at grown x ≡ at redefined_a x)
unfolding canon
head_as x low = one_of_two _ _ _ (each_below (λ y. at grown y == at file_halves y || at grown y == at redefined_a y) 116 refl x low)

pub returns : goal.returns
unfolding canon
returns c = record {
  longer = record { kept = refl; long = omega arith; short = omega arith };
  not_zero = λ h. one_is_zero (ap (λ file. at file 80) h.kept);
  past_end = λ h. absurd (omega (arith, h.short));
  old = inl refl;
  begun = inr (record { short = omega arith; each = begun_as });
  other = λ h. elim h [ inl e ↦ two_lengths (ap (λ (file : List ℕ). length file) e) | inr g ↦ nine_is_zero (g.each 40 (lit< tt)) ];
  redefining = record { long = omega arith; short = omega arith; head = head_as; past = λ x far near. absurd (omega (arith, far, near)) };
  other_head = λ h. nine_is_none (h.head 79 (lit< tt));
}
