-- Names in order: what a search finds is the first of a name.
use Rattle.rank_core.proofs.Words.{◌≡◌, ℕ, ◌<◌, ◌≤◌, refl, sym, ap, ◌∙◌, inl, inr, List, [], length, get_or, Bool, true, false, cond, ltb, Some, None, arith, position, bytes_eq, nat_cmp_total, on_total, then_total, IsStrictWeakOrder, IsTotalOrder, nat_list_cmp_total, slice_cmp, Ordering, Equal, Greater, Less, range_with_len, IsPartitionedBy, IsPartitionPoint, is_eq, is_lt, nat_cmp, ordering_reverse, ordering_then, both_ways, cases_lt, cond-false, cond-true, false_from_ne_true, le-ltb, lt-ltb, get_or_default, position_or_len_is, ranks_by, sorted_far, Contains-permutation, IsPermutation-sym, get_or-range_with_len, length-range_with_len, is_eq-slice_cmp, bytes_eq-Decides, name_at, place_cmp, IsInOrder, ge_from_not_lt, nat_tests}

-- ---- the order

place_total : (names : List (List ℕ)) → IsTotalOrder (place_cmp names)
place_total names = then_total (on_total (name_at names) nat_list_cmp_total) nat_cmp_total

pub place_ranks : (names : List (List ℕ)) → IsStrictWeakOrder (λ a b. is_lt (place_cmp names a b))
place_ranks names = ranks_by (place_total names) (λ k. k)

then_first : (a b : Ordering) → is_lt (ordering_then a b) ≡ false → is_lt a ≡ false
then_first Less b h = h
then_first xs b h = refl

then_second : (a b : Ordering) → a ≡ Equal → is_lt (ordering_then a b) ≡ false → is_lt b ≡ false
then_second a b e h = sym (ap (λ (o : Ordering). is_lt (ordering_then o b)) e) ∙ h

between : (o : Ordering) → is_lt o ≡ false → is_lt (ordering_reverse o) ≡ false → is_eq o ≡ true
between Equal h k = refl
between xs h k = absurd cc

same_cmp : (a b : List ℕ) → a ≡ b → slice_cmp nat_cmp a b ≡ Equal
same_cmp a b e = is_equal (slice_cmp nat_cmp a b) (is_eq-slice_cmp a b ∙ (bytes_eq-Decides a b).1 e)
  where
    is_equal : (o : Ordering) → is_eq o ≡ true → o ≡ Equal
    is_equal Less h = absurd cc
    is_equal Equal h = refl
    is_equal Greater h = absurd cc

same_name : (a b : List ℕ) → is_lt (slice_cmp nat_cmp a b) ≡ false → is_lt (slice_cmp nat_cmp b a) ≡ false → a ≡ b
same_name a b h k =
    (bytes_eq-Decides a b).0
    (sym (is_eq-slice_cmp a b) ∙ between (slice_cmp nat_cmp a b) h (ap is_lt (sym (nat_list_cmp_total.antisymm b a)) ∙ k))

-- ---- the first place of a list that passes a test

pub position_at : {A : Type 0} (p : A → Bool) (xs : List A) (i : ℕ) (d : A) → i < length xs → ((k : ℕ) → k < i → p (get_or xs k d) ≡ false) → p (get_or xs i d) ≡ true
    → Some i ≡ position p xs
position_at p xs i d l before here =
    let first = position_or_len_is p xs i d (omega arith) before (λ m. here) in
    sym (ap (λ (k : ℕ). cond (ltb k (length xs)) (Some k) None) first ∙ cond-true (ltb i (length xs)) (Some i) None (lt-ltb i (length xs) l))

pub position_none : {A : Type 0} (p : A → Bool) (xs : List A) (d : A) → ((k : ℕ) → k < length xs → p (get_or xs k d) ≡ false) → None ≡ position p xs
position_none p xs d none =
    let first = position_or_len_is p xs (length xs) d (omega arith) none (λ m. absurd (omega arith)) in
    sym (ap (λ (k : ℕ). cond (ltb k (length xs)) (Some k) None) first ∙ cond-false (ltb (length xs) (length xs)) (Some (length xs)) None (le-ltb (length xs) (length xs) (omega arith)))

-- ---- a search

names_rank : IsStrictWeakOrder (λ a b. is_lt (slice_cmp nat_cmp a b))
names_rank = ranks_by nat_list_cmp_total (λ l. l)

module _ (names : List (List ℕ)) (places : List ℕ) (order : IsInOrder names places) (name : List ℕ) where
  abbrev below : ℕ → Bool
  below k = is_lt (slice_cmp nat_cmp (name_at names k) name)

  abbrev test : List ℕ → Bool
  test n = bytes_eq n name

  later : (i j d : ℕ) → i ≤ j → j < length places → is_lt (place_cmp names (get_or places j d) (get_or places i d)) ≡ false
  later i j d l m = sorted_far (λ a b. is_lt (place_cmp names a b)) (place_ranks names) places order.sorted i j d l m

  -- what stands before a place that is below the name is below it too
  pub partitioned : IsPartitionedBy below places
  partitioned i j d l m h = grind (arith, nat_tests, then_first, later i j d l m, names_rank.chain, below)

  record Stands (p : ℕ) : Type 0 where
    at : ℕ
    within : at < length places
    is : get_or places at 0 ≡ p

  stands : (p : ℕ) → p < length names → Stands p
  stands p l =
      let long = length-range_with_len 0 (length names) in
      let here : get_or (range_with_len 0 (length names)) p p ≡ p = get_or-range_with_len 0 (length names) p p l ∙ omega arith in
      let c = Contains-permutation (range_with_len 0 (length names)) places p order.each (p, omega arith, here) in
      record { at = c.0; within = c.1; is = get_or_default places c.0 0 p c.1 ∙ c.2 }

  is_place : (at p : ℕ) → at < length places → get_or places at 0 ≡ p → p < length names
  is_place at p l e =
      let c = Contains-permutation places (range_with_len 0 (length names)) p (IsPermutation-sym (range_with_len 0 (length names)) places order.each) (at, l, get_or_default places at p 0 l ∙ e) in
      let long = length-range_with_len 0 (length names) in
      let below_all : c.0 < length names = omega (arith, long, c.1) in
      let number = get_or-range_with_len 0 (length names) c.0 p below_all in
      omega (arith, number, c.2, below_all)

  not_below : (p : ℕ) → name_at names p ≡ name → below p ≡ false
  not_below p e = ap is_lt (same_cmp (name_at names p) name e)

  module _ (at : ℕ) (point : IsPartitionPoint (λ k. below k ≡ true) (λ k. below k ≡ false) places at) where
    -- a place of the name stands at the point or after it
    after : (p : ℕ) → name_at names p ≡ name → (s : Stands p) → at ≤ s.at
    after p e s = elim (cases_lt s.at at) [
      | inl l ↦ absurd (both_ways (below p) (not_below p e) (ap below (sym s.is) ∙ point.0 s.at 0 (omega arith) l))
      | inr l ↦ l
    ]

    far : (place p : ℕ) → at < length places → get_or places at 0 ≡ place → name_at names p ≡ name → (s : Stands p) → is_lt (place_cmp names p place) ≡ false
    far place p l e n s =
        (λ i. is_lt (place_cmp names (sym s.is i) (sym e i))) ∙ later at s.at 0 (after p n s) s.within

    none_before : (place p : ℕ) → at < length places → get_or places at 0 ≡ place → name_at names place ≡ name → p < place → test (name_at names p) ≡ false
    none_before place p l e n m =
        let there = is_place at place l e in
        false_from_ne_true (test (name_at names p)) (λ t.
        let same : name_at names p ≡ name = (bytes_eq-Decides (name_at names p) name).0 t in
        let s = stands p (omega arith) in
        let least = ge_from_not_lt p place (then_second _ (nat_cmp p place) (same_cmp (name_at names p) (name_at names place) (same ∙ sym n)) (far place p l e same s)) in
        omega arith)

    pub first_found : (place : ℕ) → at < length places → get_or places at 0 ≡ place → name_at names place ≡ name → Some place ≡ position test names
    first_found place l e n =
        position_at test names place [] (is_place at place l e) (λ k m. none_before place k l e n m) ((bytes_eq-Decides (name_at names place) name).1 n)

    pub none_past : length places ≤ at → None ≡ position test names
    none_past l = position_none test names [] (λ k m. false_from_ne_true (test (name_at names k)) (λ t.
        let s = stands k m in
        let low = s.within in
        let high = after k ((bytes_eq-Decides (name_at names k) name).0 t) s in
        omega arith))

    pub none_other : (place : ℕ) → at < length places → get_or places at 0 ≡ place → (name_at names place ≡ name → ⊥) → None ≡ position test names
    none_other place l e n = position_none test names [] (λ k m. false_from_ne_true (test (name_at names k)) (λ t.
        let same : name_at names k ≡ name = (bytes_eq-Decides (name_at names k) name).0 t in
        let s = stands k m in
        let up = then_first _ (nat_cmp k place) (far place k l e same s) in
        let down : below place ≡ false = ap below (sym e) ∙ point.1 at 0 (omega arith) l in
        n (same_name (name_at names place) name down (ap (λ (x : List ℕ). is_lt (slice_cmp nat_cmp x (name_at names place))) (sym same) ∙ up))))

    pub place_within : (place : ℕ) → at < length places → get_or places at 0 ≡ place → place < length names
    place_within place l e = is_place at place l e
