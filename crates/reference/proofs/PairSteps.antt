-- The requests that hold a byte, and the least byte that two hold, one holding after another.
use Rattle.reference.proofs.Words.{◌≡◌, ℕ, ◌+◌, ◌<◌, refl, sym, ap, ◌∙◌, List, [], ◌∷◌, ◌++◌, length, map, drop, get_or, filter, fold, min, Bool, true, false, cond, Option, Some, None, list_any, Holding, Key, distinct, has_byte, holders, least, same_key, least_with, lesser_of, arith, nat_tests}
use Rattle.reference.proofs.GatherLaws.{next_left}

-- ---- holders

kept : (h : Holding) (rest : List Holding) (x : ℕ) (t : Bool) → has_byte x h ≡ t
    → holders (h ∷ rest) x ≡ distinct (map (λ h. h.0) (cond t (h ∷ filter (has_byte x) rest) (filter (has_byte x) rest)))
kept h rest x t e = ap (λ (u : Bool). distinct (map (λ h. h.0) (cond u (h ∷ filter (has_byte x) rest) (filter (has_byte x) rest)))) e

pub no_holder : (h : Holding) (rest : List Holding) (x : ℕ) (keys : List Key) → has_byte x h ≡ false → keys ≡ holders rest x → keys ≡ holders (h ∷ rest) x
no_holder h rest x keys e f = f ∙ sym (kept h rest x false e)

pub known_holder : (h : Holding) (rest : List Holding) (x : ℕ) (keys : List Key) → has_byte x h ≡ true → list_any (λ l. same_key l h.0) keys ≡ true
    → keys ≡ holders rest x → keys ≡ holders (h ∷ rest) x
known_holder h rest x keys e k f = grind (arith, nat_tests)

pub new_holder : (h : Holding) (rest : List Holding) (x : ℕ) (keys : List Key) → has_byte x h ≡ true → list_any (λ l. same_key l h.0) keys ≡ false
    → keys ≡ holders rest x → h.0 ∷ keys ≡ holders (h ∷ rest) x
new_holder h rest x keys e k f = grind (arith, nat_tests)

-- ---- the least

folds_on : (a : ℕ) (xs : List ℕ) → least_with (Some a) xs ≡ Some (fold (λ a b. min a b) a xs)
folds_on a [] = refl
folds_on a (x ∷ xs) = folds_on (min a x) xs

pub least_is : (xs : List ℕ) → least_with None xs ≡ least xs
least_is xs = grind (arith, nat_tests, folds_on)

pub least_joined : (xs : List ℕ) (known : Option ℕ) (ys : List ℕ) → least_with known (xs ++ ys) ≡ least_with (least_with known xs) ys
least_joined [] known ys = refl
least_joined (x ∷ xs) known ys = least_joined xs (Some (lesser_of known x)) ys

-- ---- one byte, and one holding more

pub least_step : (p : ℕ → Bool) (xs : List ℕ) (i b : ℕ) (s : Bool) (known known' whole : Option ℕ) → i < length xs → b ≡ get_or xs i 0 → s ≡ p b
    → known' ≡ cond s (Some (lesser_of known b)) known → least_with known (filter p (drop i xs)) ≡ whole → least_with known' (filter p (drop (i + 1) xs)) ≡ whole
least_step p xs i b s known known' whole h e t k w = grind (arith, nat_tests, filter p (drop (i + 1) xs), next_left xs i b 0 h e)
