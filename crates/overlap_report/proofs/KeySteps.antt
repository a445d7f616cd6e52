-- Requests that are the same or not, and entries among the first of a list.
use Rattle.overlap_report.proofs.Words.{◌≡◌, ℕ, ◌+◌, ◌<◌, ◌≤◌, ◌⊎◌, sym, subst, inl, inr, List, [], ◌∷◌, ◌++◌, length, take, get_or, true, false, arith, nat_tests, take_more, take_all, entry_in, Owned, Key, same_key, key_below, In, extents, IsByPlace, EndBelow, in_either, in_left, in_right, map_in, in_extents}
pub use Rattle.serial_spec.proofs.KeyLaws.{not_below_itself}

-- ---- keys

pub key_meet : (a b r : Key) → same_key a r ≡ true → same_key b r ≡ true → same_key a b ≡ true
key_meet a b r h k = grind (arith, nat_tests)

pub key_apart : (a b r : Key) → same_key a r ≡ true → same_key b r ≡ false → same_key a b ≡ false
key_apart a b r h k = grind (arith, nat_tests)

pub key_apart_back : (a b r : Key) → same_key a r ≡ false → same_key b r ≡ true → same_key a b ≡ false
key_apart_back a b r h k = grind (arith, nat_tests)

pub below_or_above : (a b : Key) → same_key a b ≡ false → key_below a b ≡ false → key_below b a ≡ true
below_or_above a b h k = grind (arith, nat_tests)

-- ---- the first entries of a list

-- one more entry
pub record IsNext (seen more : List Owned) (o : Owned) : Type 0 where
  pub splits : (p : Owned) → In more p → In seen p ⊎ (p ≡ o)
  pub keeps : (p : Owned) → In seen p → In more p
  pub has : In more o

-- what holds of those seen, and of the next
pub for_next : {seen more : List Owned} {o : Owned} (P : Owned → Type 0) → IsNext seen more o → ((p : Owned) → In seen p → P p) → P o → (p : Owned) → In more p → P p
for_next P next old here p m = elim (next.splits p m) [ inl a ↦ old p a | inr a ↦ subst P (sym a) here ]

pub next_pushed : (seen : List Owned) (o : Owned) → IsNext seen (seen ++ o ∷ []) o
next_pushed seen o = grind (arith, nat_tests, in_either, in_left, in_right)

pub before_next : (list : List Owned) (i : ℕ) (o p : Owned) → i < length list → o ≡ get_or list i o → IsByPlace (extents list) → In (take i list) p → p.extent.at ≤ o.extent.at
before_next [] i o p h is sorted m = absurd (omega arith)
before_next (a ∷ list) i o p h is sorted m = grind (arith, nat_tests, entry_in list, in_extents list o, before_next list)

pub at_or_before : (list : List Owned) (i : ℕ) (o p : Owned) → i < length list → o ≡ get_or list i o → IsByPlace (extents list) → In list p
    → In (take i list) p ⊎ (o.extent.at ≤ p.extent.at)
at_or_before [] i o p h is sorted m = absurd m
at_or_before (a ∷ list) i o p h is sorted m = grind (arith, nat_tests, in_extents list p, at_or_before list)

abbrev pub nothing : Owned
nothing = record { extent = record { at = 0; len = 0 }; rank = 0; request = 0; slot = 0; from = 0 }

pub next_at : (list : List Owned) (i : ℕ) → i < length list → IsNext (take i list) (take (i + 1) list) (get_or list i nothing)
next_at list i h = subst (λ (os : List Owned). IsNext (take i list) os (get_or list i nothing)) (sym (take_more list i nothing h)) (next_pushed (take i list) (get_or list i nothing))

-- entries that end below a place, and one more
pub ends_next : (list : List Owned) (i n : ℕ) → i < length list → EndBelow n (extents (take i list))
    → (get_or list i nothing).extent.at + (get_or list i nothing).extent.len < n → EndBelow n (extents (take (i + 1) list))
ends_next list i n h ends last e m = grind (arith, nat_tests, map_in, for_next, next_at list i h, in_extents (take i list))

pub ends_all : (list : List Owned) (i n : ℕ) → length list ≤ i → EndBelow n (extents (take i list)) → EndBelow n (extents list)
ends_all list i n h ends = subst (λ (os : List Owned). EndBelow n (extents os)) (take_all i list h) ends
