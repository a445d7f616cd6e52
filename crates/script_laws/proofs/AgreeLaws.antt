-- The ranks of a script agree on the kinds of their collective calls.
use Rattle.script_laws.proofs.Words.{◌≡◌, ◌≤◌, ◌<◌, ℕ, zero, suc, ◌+◌, List, [], ◌∷◌, length, map, Bool, true, false, not, Some, None, Ok, refl, arith, find, position, is_some, option_map, ◌==◌, nat_lt, bytes_eq, ltb-false, eq-or-lt_of_le, true≢false, AllByRecursion, list_all, range_with_len, position_or_len, prefix_len, bytes_eq-Decides, and_from, finished, each_weaker, found_passes, none_before_map, not_some, untold, Call, MeetKind, kinds, kind_number, kind_numbers, agree, Line, kind_at, differs_at, is_difference, first_difference, mismatch, finish, nat_tests}
use Rattle.nc_base.specs.declared.errors.ScriptKind.TheVariants as kind

-- ---- no difference

-- what is not found passes nowhere
find_none : (p : ℕ → Bool) (from len k : ℕ) → find p (range_with_len from len) ≡ None → from ≤ k → k < from + len → p k ≡ false
find_none p from zero k h low high = absurd (omega arith)
find_none p from (suc len) k h low high = grind (arith, nat_tests, p from, eq-or-lt_of_le low, find_none p (from + 1) len k)

no_difference : (ranks : List (List MeetKind)) (first : List MeetKind) → first_difference ranks first ≡ None → find (is_difference ranks first) (range_with_len 0 (length first + 1)) ≡ None
no_difference ranks first h = grind (arith, nat_tests, find, found_passes, option_map, is_some, none_before_map, true≢false)

-- ---- no rank differs

prefix_all : {A : Type 0} (q : A → Bool) (xs : List A) → length xs ≤ prefix_len q xs → AllByRecursion (λ x. q x ≡ true) xs
prefix_all q [] h = tt
prefix_all {A} q (x ∷ xs) h = grind (arith, nat_tests, prefix_all q xs)

position_none : {A : Type 0} (p : A → Bool) (xs : List A) → position p xs ≡ None → AllByRecursion (λ x. not (p x) ≡ true) xs
position_none p xs h = prefix_all (λ x. not (p x)) xs (ltb-false _ _ (untold (nat_lt (position_or_len p xs) (length xs)) (position_or_len p xs) h))

-- the rank has the k-th kind of the first
abbrev SameAt : List MeetKind → ℕ → List MeetKind → Type 0
SameAt first k own = kind_at k own ≡ kind_at k first

all_same_at : (ranks : List (List MeetKind)) (first : List MeetKind) (k : ℕ) → differs_at ranks first k ≡ None → AllByRecursion (SameAt first k) ranks
all_same_at ranks first k h =
    each_weaker (λ own. not (not (kind_at k own == kind_at k first)) ≡ true) (SameAt first k) (λ own e. grind (arith, nat_tests)) ranks
    (position_none (λ own. not (kind_at k own == kind_at k first)) ranks h)

all_swapped : {A : Type 0} (P : ℕ → A → Type 0) (n : ℕ) (xs : List A) → ((k : ℕ) → k ≤ n → AllByRecursion (P k) xs) → AllByRecursion (λ x. (k : ℕ) → k ≤ n → P k x) xs
all_swapped P n [] h = tt
all_swapped P n (x ∷ xs) h = (λ k l. (h k l).0, all_swapped P n xs (λ k l. (h k l).1))

-- ---- the same kinds

some_number : (x : MeetKind) → 1 ≤ kind_number (Some x)
some_number x = grind (arith, nat_tests)

abbrev numbers : List MeetKind → List ℕ
numbers own = map (λ k. kind_number (Some k)) own

same_numbers : (own first : List MeetKind) → ((k : ℕ) → k ≤ length first → SameAt first k own) → numbers own ≡ numbers first
same_numbers [] [] h = refl
same_numbers [] (y ∷ ys) h = grind (arith, nat_tests, h 0, some_number y)
same_numbers (x ∷ xs) [] h = grind (arith, nat_tests, h 0, some_number x)
same_numbers (x ∷ xs) (y ∷ ys) h = grind (arith, nat_tests, h 0, same_numbers xs ys (λ k l. h (suc k) (omega arith)))

mapped_pass : (test : List Call → Bool) (Q : List MeetKind → Type 0) → ((own : List Call) → Q (kinds own) → test own ≡ true) → (calls : List (List Call))
    → AllByRecursion Q (map (λ own. kinds own) calls) → list_all test calls ≡ true
mapped_pass test Q f [] h = refl
mapped_pass test Q f (own ∷ calls) h = and_from (test own) (list_all test calls) (f own h.0) (mapped_pass test Q f calls h.1)

pub agreed : (calls : List (List Call)) → mismatch (map (λ own. kinds own) calls) ≡ None → agree calls ≡ true
agreed [] h = refl
agreed (own ∷ others) h =
    let ranks : List (List MeetKind) = kinds own ∷ map (λ o. kinds o) others in
    let none = none_before_map (λ (d : ℕ × ℕ). kind.Mismatch d.0 0 d.1) (first_difference ranks (kinds own)) h in
    let nowhere = no_difference ranks (kinds own) none in
    let same : AllByRecursion (λ o. (k : ℕ) → k ≤ length (kinds own) → SameAt (kinds own) k o) ranks =
    all_swapped (SameAt (kinds own)) (length (kinds own)) ranks (λ k l.
    all_same_at ranks (kinds own) k (not_some (differs_at ranks (kinds own) k) (find_none (is_difference ranks (kinds own)) 0 (length (kinds own) + 1) k nowhere (omega arith) (omega arith)))) in
    mapped_pass (λ o. bytes_eq (kind_numbers o) (kind_numbers own)) (λ o. (k : ℕ) → k ≤ length (kinds own) → SameAt (kinds own) k o)
    (λ o p. (bytes_eq-Decides (kind_numbers o) (kind_numbers own)).1 (same_numbers (kinds o) (kinds own) p)) others same.1

pub finish_agreed : (n : ℕ) (calls : List (List Call)) (ls : List Line) (u : Unit {0}) → finish n calls ls ≡ Ok u → agree calls ≡ true
finish_agreed n calls ls u h = agreed calls (finished n calls ls u h)
