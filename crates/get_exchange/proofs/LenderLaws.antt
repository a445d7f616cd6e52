-- One more lender, or fewer.
use Rattle.get_exchange.proofs.Words.{◌≡◌, ℕ, zero, suc, ◌++◌, ◌∷◌, [], List, Some, subst, take, slice_get, same_Some}

pub each_pushed : {X : Type 0} (P : X → Type 0) (xs now : List X) (y : X) → now ≡ xs ++ y ∷ [] → ((k : ℕ) (x : X) → slice_get xs k ≡ Some x → P x) → P y
    → (k : ℕ) (x : X) → slice_get now k ≡ Some x → P x
each_pushed {X} P xs now y e all own k x g = pushed xs all k (subst (λ (zs : List X). slice_get zs k ≡ Some x) e g)
  where
    pushed : (ys : List X) → ((r : ℕ) (z : X) → slice_get ys r ≡ Some z → P z) → (r : ℕ) → slice_get (ys ++ y ∷ []) r ≡ Some x → P x
    pushed [] each zero h = subst P (same_Some y x h) own
    pushed [] each (suc r) h = absurd cc
    pushed (z ∷ ys) each zero h = each zero x h
    pushed (z ∷ ys) each (suc r) h = pushed ys (λ q w i. each (suc q) w i) r h

-- some of the first
pub each_taken : {X : Type 0} (P : X → Type 0) (n : ℕ) (xs : List X) → ((k : ℕ) (x : X) → slice_get xs k ≡ Some x → P x) → (k : ℕ) (x : X) → slice_get (take n xs) k ≡ Some x → P x
each_taken P (suc n) (y ∷ xs) all zero x h = all zero x h
each_taken P (suc n) (y ∷ xs) all (suc k) x h = each_taken P n xs (λ r z e. all (suc r) z e) k x h
each_taken _ _ _ all k x h = absurd cc
