-- The first number at which the ranks differ.
use Rattle.script_calls.proofs.Words.{◌≡◌, ◌≤◌, ◌<◌, ℕ, suc, ◌+◌, ◌-◌, List, length, Bool, false, Option, Some, None, find, ap, arith, cond, is_some, option_map, MeetKind, differs_at, is_difference, first_difference, range_with_len, nat_tests}

-- what is left to look at from k on, up to n
abbrev pub left : (ℕ → Bool) → ℕ → ℕ → Option ℕ
left p k n = find p (range_with_len k (n + 1 - k))

-- the test decides what is found
found_or : (p : ℕ → Bool) (k m : ℕ) (b : Bool) → p k ≡ b → find p (range_with_len k (suc m)) ≡ cond b (Some k) (find p (range_with_len (k + 1) m))
found_or p k m b h = ap (λ (x : Bool). cond x (Some k) (find p (range_with_len (k + 1) m))) h

pub left_next : (p : ℕ → Bool) (k n : ℕ) → p k ≡ false → k < n → left p k n ≡ left p (k + 1) n
left_next p k n h lt = grind (arith, nat_tests, find p, found_or p k (n - k) false h)

all_left : (p : ℕ → Bool) (n : ℕ) → find p (range_with_len 0 (n + 1)) ≡ left p 0 n
all_left p n = let same : n + 1 ≡ n + 1 - 0 = omega arith in ap (λ (m : ℕ). find p (range_with_len 0 m)) same

-- ---- the same of the ranks

pub difference_at : (ranks : List (List MeetKind)) (first : List MeetKind) (k r : ℕ) → differs_at ranks first k ≡ Some r → k ≤ length first
    → left (is_difference ranks first) k (length first) ≡ left (is_difference ranks first) 0 (length first) → first_difference ranks first ≡ Some (k, r)
difference_at ranks first k r here le so_far = grind (arith, nat_tests, find, all_left, found_or, is_some, option_map)

pub no_difference : (ranks : List (List MeetKind)) (first : List MeetKind) (k : ℕ) → differs_at ranks first k ≡ None → k ≡ length first
    → left (is_difference ranks first) k (length first) ≡ left (is_difference ranks first) 0 (length first) → first_difference ranks first ≡ None
no_difference ranks first k here last so_far = grind (arith, nat_tests, is_some, found_or, find, all_left, left, is_some)

pub none_here : (ranks : List (List MeetKind)) (first : List MeetKind) (k : ℕ) → differs_at ranks first k ≡ None → k < length first
    → left (is_difference ranks first) k (length first) ≡ left (is_difference ranks first) (k + 1) (length first)
none_here ranks first k here lt = left_next (is_difference ranks first) k (length first) (ap is_some here) lt
