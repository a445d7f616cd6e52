use Rattle.serial_spec.proofs.Words.{◌≡◌, ℕ, zero, suc, refl, inl, lit<, arith, slice_get, if_some_at, no_none_some, Var, Int, Short, dataset_a, dataset_aq, file_halves, more_var, canon, var_at, size_of, AreApart, IsIndex, place, known_lengths, Moves}
use Rattle.std.specs.Prelude.{List, [], ◌∷◌}
use Rattle.serial_spec.proofs.AddedLaws.{redefined_keeps}
use Rattle.serial_spec.proofs.MoveLaws.{redefined_is}
use Rattle.serial_spec.proofs.worked_additions.worked_redefined.Goals as goal

-- the bytes of v's elements at their new places end before byte 132
ends_before : (index : List ℕ) (to size : ℕ) → IsIndex (4 ∷ []) index → size ≡ 4 → to ≡ place dataset_aq (var_at 118 Int (0 ∷ []) 116) index
    → AreApart to size 132 1
unfolding canon
ends_before [] to size h s t = absurd h
ends_before (i ∷ []) to size h s t = inl (omega (arith, h.0, s, t))
ends_before (i ∷ j ∷ index) to size h s t = absurd h.1

behind : (from to size : ℕ) → Moves dataset_a dataset_aq from to size → AreApart to size 132 1
unfolding canon
behind from to size (zero, v, w, index, old, new, inside, f, t, s) =
    if_some_at (λ (u : Var). IsIndex (known_lengths dataset_a u 0) index → size ≡ size_of u.kind → AreApart to size 132 1) (slice_get dataset_a.vars 0) v old
    (λ within long. if_some_at (λ (u : Var). to ≡ place dataset_aq u index → AreApart to size 132 1) (slice_get dataset_aq.vars 0) w new
    (ends_before index to size within long) t)
    inside s
behind from to size (suc k, v, w, index, old, new, inside, f, t, s) = no_none_some v old

-- the last element stands at 92 in the old file and at 128 in the new one
pub returns : goal.returns
unfolding canon
returns c = record {
  right = redefined_is file_halves dataset_a dataset_aq refl (redefined_keeps dataset_a (more_var 113 Short 120 ∷ []) refl);
  other_value = λ h. let same = h.moved 92 128 4 (0, _, _, 3 ∷ [], refl, refl, (lit< tt, tt), refl, refl, refl) in absurd cc;
  not_zero = λ h. let zero = h.bare 132 (lit< tt) (lit< tt) behind in absurd cc;
  too_long = λ h. absurd (omega (arith, h.long));
}
