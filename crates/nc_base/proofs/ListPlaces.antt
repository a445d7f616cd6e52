-- The entries of one list behind another by their places, and one entry more.
use Rattle.nc_base.proofs.Words.{◌≡◌, ℕ, zero, suc, ◌<◌, ◌+◌, ap, refl, ◌∙◌, List, [], ◌∷◌, ◌++◌, length, take, Some, arith, slice_get, slice_get_within, get_or_from_slice_get, take_more}

pub get_left : {A : Type 0} (xs ys : List A) (k : ℕ) → k < length xs → slice_get (xs ++ ys) k ≡ slice_get xs k
get_left [] ys k h = absurd (omega arith)
get_left (x ∷ xs) ys zero h = refl
get_left (x ∷ xs) ys (suc k) h = get_left xs ys k (omega arith)

pub get_right : {A : Type 0} (xs ys : List A) (k m : ℕ) → m ≡ length xs + k → slice_get (xs ++ ys) m ≡ slice_get ys k
get_right [] ys k m h = let e : m ≡ k = omega arith in ap (λ (n : ℕ). slice_get ys n) e
get_right (x ∷ xs) ys k zero h = absurd (omega arith)
get_right (x ∷ xs) ys k (suc m) h = get_right xs ys k m (omega arith)

pub take_next : {X : Type 0} (xs : List X) (i : ℕ) (x : X) → slice_get xs i ≡ Some x → take (i + 1) xs ≡ take i xs ++ x ∷ []
take_next xs i x e = take_more xs i x (slice_get_within xs i x e) ∙ ap (λ (y : _). take i xs ++ y ∷ []) (get_or_from_slice_get xs i x x e)
