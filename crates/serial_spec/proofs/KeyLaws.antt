-- Keys in order: the least of some keys, keys without repetition, and the two least of them.
use Rattle.serial_spec.proofs.Words.{◌≡◌, ◌<◌, ◌≤◌, refl, subst, inl, inr, ◌⊎◌, List, [], ◌∷◌, length, Bool, true, false, not, arith, nat_tests, filter, fold, list_any, not-true, not_from_false, and_first, and_second, no_false, or_first_false, Key, same_key, key_below, distinct, lesser_key, least_key, In, either, holds_or_not, common_steps}
use Rattle.serial_spec.proofs.MemberLaws.{any_member, in_filter, filter_in}

-- ---- keys

pub key_equal : (a b : Key) → same_key a b ≡ true → a ≡ b
key_equal a b h = grind (arith, nat_tests, and_first, and_second)

pub key_itself : (a : Key) → same_key a a ≡ true
key_itself a = grind (arith, nat_tests)

pub not_below_itself : (a : Key) → key_below a a ≡ false
not_below_itself a = grind (arith, nat_tests)

-- a key that is not below another is it or above it
above : (a b : Key) → key_below a b ≡ false → same_key a b ≡ false → key_below b a ≡ true
above a b h k = grind (arith, nat_tests)

lower : (a k m : Key) → key_below (lesser_key a k) m ≡ false → (key_below a m ≡ false) × (key_below k m ≡ false)
lower a k m = grind (arith, nat_tests, key_below)

-- ---- membership

-- a key that the test finds is a member, and the other way round
pub key_in : (ks : List Key) (k : Key) → list_any (λ l. same_key l k) ks ≡ true → In ks k
key_in [] k h = no_false h
key_in (j ∷ ks) k h = grind (arith, nat_tests, key_in ks k, key_equal j k)

pub in_key : (ks : List Key) (k : Key) → In ks k → list_any (λ l. same_key l k) ks ≡ true
in_key ks k h = any_member (λ l. same_key l k) ks k h (key_itself k)

-- ---- the least of a list of keys

record IsLeast (a : Key) (ks : List Key) (m : Key) : Type 0 where
  below_first : key_below a m ≡ false
  below_all : (k : Key) → In ks k → key_below k m ≡ false
  member : (m ≡ a) ⊎ In ks m

fold_least : (a : Key) (ks : List Key) → IsLeast a ks (fold lesser_key a ks)
fold_least a [] = record { below_first = grind (arith, nat_tests); below_all = λ k h. absurd h; member = inl refl }
fold_least a (j ∷ ks) = grind (arith, nat_tests, fold_least (lesser_key a j) ks, lower, lesser_key, key_below)

-- ---- without repetition

abbrev pub NoRepeat : List Key → Type 0
NoRepeat [] = Unit {0}
NoRepeat (k ∷ ks) = (list_any (λ l. same_key l k) ks ≡ false) × NoRepeat ks

pub any_distinct : (ks : List Key) (k : Key) → list_any (λ l. same_key l k) (distinct ks) ≡ list_any (λ l. same_key l k) ks
any_distinct [] k = refl
any_distinct (j ∷ ks) k = grind (arith, nat_tests, any_distinct ks k, key_equal)

pub no_repeat : (ks : List Key) → NoRepeat (distinct ks)
no_repeat [] = tt
no_repeat (j ∷ ks) = either NoRepeat (list_any (λ l. same_key l j) (distinct ks)) _ _ (λ e. no_repeat ks) (λ e. (e, no_repeat ks))

pub short_same : (ks : List Key) (a b : Key) → length ks ≤ 1 → In ks a → In ks b → a ≡ b
short_same [] a b l h g = absurd h
short_same ks a b l h g = grind (arith, common_steps)

-- ---- two holders

pub two_of : (ks : List Key) → NoRepeat ks → 1 < length ks → (a : Key) × (b : Key) × In ks a × In ks b × (same_key b a ≡ false)
two_of (a ∷ b ∷ ks) n l = (a, b, inl refl, inr (inl refl), or_first_false (same_key b a) _ n.0)
two_of _ n l = absurd (omega arith)

least_key_is : (ks : List Key) (j : Key) → In ks j → In ks (least_key ks) × ((i : Key) → In ks i → key_below i (least_key ks) ≡ false)
least_key_is [] j h = absurd h
least_key_is (k ∷ ks) j h = grind (arith, nat_tests, fold_least k ks)

-- the two least of some keys without repetition
pub record AreLeast (ks : List Key) (first second : Key) : Type 0 where
  pub has_first : In ks first
  pub has_second : In ks second
  pub in_order : key_below first second ≡ true
  pub others : (a : Key) → In ks a → (a ≡ first) ⊎ (a ≡ second) ⊎ (key_below second a ≡ true)

-- one of two different keys is not the first
one_other : (ks : List Key) (a b f : Key) → In ks a → In ks b → same_key b a ≡ false → (k : Key) × In ks k × (same_key k f ≡ false)
one_other ks a b f p q n = elim (holds_or_not (same_key a f)) [ inl e ↦ (b, q, subst (λ (x : Key). same_key b x ≡ false) (key_equal a f e) n) | inr e ↦ (a, p, e) ]

pub two_least : (ks : List Key) → NoRepeat ks → 1 < length ks → AreLeast ks (least_key ks) (least_key (filter (λ k. not (same_key k (least_key ks))) ks))
two_least ks n l =
    let two = two_of ks n l in
    let f = least_key ks in
    let low = least_key_is ks two.0 two.2 in
    let o = one_other ks two.0 two.1 f two.2 two.3 two.4 in
    let test : Key → Bool = λ k. not (same_key k f) in
    let next = least_key_is (filter test ks) o.0 (in_filter test ks o.0 o.1 (not_from_false (same_key o.0 f) o.2)) in
    let from = filter_in test ks _ next.0 in
    record {
      has_first = low.0;
      has_second = from.0;
      in_order = above _ f (low.1 _ from.0) (not-true _ from.1);
      others = grind (arith, nat_tests, holds_or_not, key_equal, above, in_filter test ks, next.1, same_key);
    }
