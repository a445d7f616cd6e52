-- Lists that are the same at each place, and lists that are not.
use Rattle.nc_base.proofs.Words.{◌≡◌, ℕ, suc, ◌+◌, ◌<◌, refl, ◌∙◌, ap, sym, List, [], ◌∷◌, ◌++◌, append_assoc, take, length, true, false, Some, arith, ℤ, slice_get, nat_eq, int_eq, pointwise, bytes_decides, signed_items, same_Some, false_from_ne_true, nat_tests}
use Rattle.nc_base.proofs.ListPlaces.{take_next}

same_lists : {A : Type 0} (xs ys : List A) → length xs ≡ length ys → ((k : ℕ) → k < length xs → slice_get xs k ≡ slice_get ys k) → xs ≡ ys
same_lists [] [] h each = refl
same_lists [] (y ∷ ys) h each = absurd (omega arith)
same_lists (x ∷ xs) [] h each = absurd (omega arith)
same_lists {A} (x ∷ xs) (y ∷ ys) h each =
    ap (λ (z : A). z ∷ xs) (same_Some x y (each 0 (omega arith)))
    ∙ ap (λ (l : List A). y ∷ l) (same_lists xs ys (omega arith) (λ k lt. each (suc k) (omega arith)))

pub equal_numbers : (xs ys : List ℤ) → length xs ≡ length ys → ((k : ℕ) → k < length xs → slice_get xs k ≡ slice_get ys k) → true ≡ pointwise int_eq xs ys
equal_numbers xs ys h each = sym ((signed_items xs ys).1 (same_lists xs ys h each))

pub other_numbers : (xs ys : List ℤ) (k : ℕ) → (slice_get xs k ≡ slice_get ys k → ⊥) → false ≡ pointwise int_eq xs ys
other_numbers xs ys k h = sym (false_from_ne_true (pointwise int_eq xs ys) (λ e. h (ap (λ (l : List ℤ). slice_get l k) ((signed_items xs ys).0 e))))

pub equal_bits : (xs ys : List ℕ) → length xs ≡ length ys → ((k : ℕ) → k < length xs → slice_get xs k ≡ slice_get ys k) → true ≡ pointwise nat_eq xs ys
equal_bits xs ys h each = sym ((bytes_decides xs ys).1 (same_lists xs ys h each))

pub after_some : {A : Type 0} (first old new xs : List A) (k : ℕ) (x : A) → slice_get xs k ≡ Some x → old ≡ first ++ take k xs → new ≡ old ++ x ∷ [] → new ≡ first ++ take (k + 1) xs
after_some {A} first old new xs k x there before added = grind (arith, nat_tests, append_assoc, take_next, take)
