-- The slabs of a sound header's variables: each holds a byte, and no two of them share one.
use Rattle.redef_laws.proofs.Words.{◌≡◌, ℕ, ◌+◌, ◌<◌, ◌≤◌, inl, inr, ◌⊎◌, List, [], ◌∷◌, Bool, true, false, cond, ◌||◌, Some, arith, cases_lt, nat_tests, mul-le, slice_get, nat_lt, nat_le, ◌==◌, AllByRecursion, size_pos, Header, Var, product, without_record, is_record, slab, recsize, meet, header_len, is_sound, none_from, none_shared, past_header, none_later, not_zero, ltb-false, drop}

-- ---- one variable

product_holds : (ns : List ℕ) → AllByRecursion (λ n. (n == 0) ≡ false) ns → 1 ≤ product ns
product_holds [] h = omega arith
product_holds (n ∷ ns) h = grind (arith, nat_tests, product_holds ns h.1, not_zero n h.0, mul-le 1 1 n (product ns) (not_zero n h.0) (product_holds ns h.1))

pub inner_holds : (ls : List ℕ) → AllByRecursion (λ n. (n == 0) ≡ false) (drop 1 ls) → 1 ≤ product (without_record ls)
inner_holds ls h = grind (arith, nat_tests, product_holds)

-- a slab holds a byte
pub slab_holds : (header : Header) (k : ℕ) (v : Var) → is_sound header ≡ true → slice_get header.vars k ≡ Some v → 0 < slab header v
slab_holds header k v sound h = grind (arith, nat_tests, inner_holds, none_later, size_pos, mul-le)

pub past_front : (header : Header) (k : ℕ) (v : Var) → is_sound header ≡ true → slice_get header.vars k ≡ Some v → header_len header ≤ v.begin
past_front header k v sound h = past_header header (header_len header) 0 header.vars k v (none_shared header sound) h

-- ---- two variables: n bytes from a, and m bytes from b

-- `share` on numbers, by whether the variables are record variables
abbrev share_by : ℕ → ℕ → ℕ → ℕ → ℕ → Bool → Bool → Bool
share_by size a n b m s t =
    cond s (cond t (cond (nat_le a b) (nat_lt b (a + n) || nat_lt (a + size) (b + m)) (nat_lt a (b + m) || nat_lt (b + size) (a + n))) (nat_lt a (b + m)))
    (cond t (nat_lt b (a + n)) (meet a n b m))

-- Within one record the n bytes come before the m bytes.
pub record InTurn (size a n b m : ℕ) : Type 0 where
  pub next : a + n ≤ b
  pub last : b + m ≤ a + size

-- what it says that they share no byte, by whether each is a record variable: s tells of the first one, t of the second
pub record IsApart (size a n b m : ℕ) (s t : Bool) : Type 0 where
  pub both_fixed : s ≡ false → t ≡ false → (a + n ≤ b) ⊎ (b + m ≤ a)
  pub record_last : s ≡ false → t ≡ true → a + n ≤ b
  pub record_first : s ≡ true → t ≡ false → b + m ≤ a
  pub both_records : s ≡ true → t ≡ true → InTurn size a n b m ⊎ InTurn size b m a n

unshared : (size a n b m : ℕ) (s t : Bool) → 0 < n → 0 < m → share_by size a n b m s t ≡ false → IsApart size a n b m s t
unshared size a n b m s t p q h = grind (arith, nat_tests, cases_lt, ltb-false)

turned : (size a n b m : ℕ) (s t : Bool) → IsApart size a n b m s t → IsApart size b m a n t s
turned size a n b m s t h = grind (arith, nat_tests)

pub vars_apart : (header : Header) (k m : ℕ) (v w : Var) → is_sound header ≡ true → slice_get header.vars k ≡ Some v → slice_get header.vars m ≡ Some w
    → (k ≡ m → ⊥) → IsApart (recsize header) v.begin (slab header v) w.begin (slab header w) (is_record header v) (is_record header w)
vars_apart header k m v w sound h g differ = elim (cases_lt k m) [
  | inl l ↦ grind (arith, nat_tests, unshared, slab_holds, none_from, none_shared)
  | inr l ↦
      let o : m < k = grind (arith, nat_tests, l, differ) in
      turned (recsize header) w.begin (slab header w) v.begin (slab header v) (is_record header w) (is_record header v) (grind (arith, nat_tests, o, unshared, slab_holds, none_from, none_shared))
]
