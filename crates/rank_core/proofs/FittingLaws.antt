-- Numbers of two lists that are the same, place by place.
use Rattle.rank_core.proofs.Words.{◌≡◌, ℕ, ◌+◌, ◌<◌, List, length, map, take, true, false, get_or, false_from_ne_true, arith, bytes_eq-Decides, bytes_eq, common_steps}

pub are_same : (xs ys : List ℕ) → xs ≡ ys → bytes_eq xs ys ≡ true
are_same xs ys e = (bytes_eq-Decides xs ys).1 e

pub not_same : (xs ys : List ℕ) → (xs ≡ ys → ⊥) → bytes_eq xs ys ≡ false
not_same xs ys n = false_from_ne_true (bytes_eq xs ys) (λ e. n ((bytes_eq-Decides xs ys).0 e))

-- one place more
pub same_more : {A B : Type 0} (f : A → ℕ) (g : B → ℕ) (xs : List A) (ys : List B) (i : ℕ) (x : A) (y : B) → map f (take i xs) ≡ map g (take i ys)
    → i < length xs → i < length ys → x ≡ get_or xs i x → y ≡ get_or ys i y → f x ≡ g y → map f (take (i + 1) xs) ≡ map g (take (i + 1) ys)
same_more f g xs ys i x y h l k e d same = grind (arith, common_steps)
