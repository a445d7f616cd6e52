-- The entries of a map at some keys, one key at a time from the least.
use Rattle.request_queue.proofs.Words.{◌≡◌, ℕ, ◌<◌, ◌≤◌, ◌∙◌, ap, sym, refl, subst, inl, inr, List, [], ◌∷◌, ◌++◌, Bool, true, false, not, Option, Some, None, append_assoc, arith, filter, list_any, AllByRecursion, IsStrictlySortedBy, nat_cmp, is_eq, nat_cmp_is, keys_of, values_of, lookup, remove_entry, is_at, insert_entry, Less, Equal, Greater, cases_order, cond-true, cond-false, or_from, or_left, ranked, sorted_head, sorted_tail, nat_tests}

-- ---- one key

pub at_same : (k q : ℕ) → k ≡ q → is_at (nat_cmp k) q ≡ true
at_same k q e = ap is_eq (sym (nat_cmp_is k q Equal e))

at_later : (k q : ℕ) → k < q → is_at (nat_cmp k) q ≡ false
at_later k q l = ap is_eq (sym (nat_cmp_is k q Less l))

at_earlier : (k q : ℕ) → q < k → is_at (nat_cmp k) q ≡ false
at_earlier k q l = ap is_eq (sym (nat_cmp_is k q Greater l))

pub at_apart : (k q : ℕ) → (k ≡ q → ⊥) → is_at (nat_cmp k) q ≡ false
at_apart k q apart = grind (arith, nat_tests, cases_order k q, at_later, at_earlier)

-- ---- keys in order

above : (k p : ℕ) (ks : List ℕ) → k ≤ p → AllByRecursion (λ q. nat_cmp p q ≡ Less) ks → AllByRecursion (λ q. k < q) ks
above k p [] le h = tt
above k p (q ∷ ks) le h = grind (arith, nat_tests, above k p ks le h.1, ranked)

-- the keys behind the first are above what isn't above it
pub above_first : (k p : ℕ) (ks : List ℕ) → k ≤ p → IsStrictlySortedBy nat_cmp (p ∷ ks) → AllByRecursion (λ q. k < q) ks
above_first k p ks le s = above k p ks le (sorted_head nat_cmp p ks s)

abbrev among : List ℕ → ℕ → Bool
among ks q = list_any (is_at (nat_cmp q)) ks

not_among : (q : ℕ) (ks : List ℕ) → AllByRecursion (λ k. q < k) ks → among ks q ≡ false
not_among q [] h = refl
not_among q (k ∷ ks) h = or_from (is_at (nat_cmp q) k) (among ks q) (at_later q k h.0) (not_among q ks h.1)

module _ {X : Type 0} where
  -- the entries at the keys, and the others
  abbrev part : (Bool → Bool) → List ℕ → List (ℕ × X) → List (ℕ × X)
  part f ks es = filter (λ e. f (among ks e.0)) es

  abbrev pub at_keys : List ℕ → List (ℕ × X) → List (ℕ × X)
  at_keys ks es = part (λ b. b) ks es

  abbrev pub at_others : List ℕ → List (ℕ × X) → List (ℕ × X)
  at_others ks es = part not ks es

  pub none_left : (o : Option X) → ((x : X) → o ≡ Some x → ⊥) → o ≡ None
  none_left o h = grind (arith, nat_tests)

  abbrev pub found : Option X → List X
  found None = []
  found (Some x) = x ∷ []

  -- ---- a key below all entries

  abbrev Above : ℕ → List (ℕ × X) → Type 0
  Above k es = AllByRecursion (λ q. k < q) (keys_of es)

  lookup_above : (k : ℕ) (es : List (ℕ × X)) → Above k es → lookup (is_at (nat_cmp k)) es ≡ None
  lookup_above k [] h = refl
  lookup_above k (e ∷ es) h = cond-false (is_at (nat_cmp k) e.0) (Some e.1) (lookup (is_at (nat_cmp k)) es) (at_later k e.0 h.0) ∙ lookup_above k es h.1

  remove_above : (k : ℕ) (es : List (ℕ × X)) → Above k es → remove_entry (is_at (nat_cmp k)) es ≡ es
  remove_above k [] h = refl
  remove_above k (e ∷ es) h = grind (arith, nat_tests, remove_above k es h.1, at_later)

  part_above : (f : Bool → Bool) (k : ℕ) (ks : List ℕ) (es : List (ℕ × X)) → Above k es → part f (k ∷ ks) es ≡ part f ks es
  part_above f k ks [] h = refl
  part_above f k ks (e ∷ es) h = grind (arith, nat_tests, part_above f k ks es h.1, at_earlier)

  -- ---- the least of the keys first

  first_at : (k : ℕ) (ks : List ℕ) (e : ℕ × X) (es : List (ℕ × X)) → Above k es → AllByRecursion (λ q. k < q) ks → k ≡ e.0
      → values_of (at_keys (k ∷ ks) (e ∷ es)) ≡ found (lookup (is_at (nat_cmp k)) (e ∷ es)) ++ values_of (at_keys ks (e ∷ es))
  first_at k ks e es up later same = grind (arith, nat_tests, cond-true, or_left, at_same, cond-false, not_among, part_above)

  none_at : (k : ℕ) (ks : List ℕ) (es : List (ℕ × X)) → Above k es
      → values_of (at_keys (k ∷ ks) es) ≡ found (lookup (is_at (nat_cmp k)) es) ++ values_of (at_keys ks es)
  none_at k ks es up = grind (arith, nat_tests, lookup_above k es up, part_above)

  later_at : (k : ℕ) (ks : List ℕ) (e : ℕ × X) (es : List (ℕ × X)) → AllByRecursion (λ q. e.0 < q) (k ∷ ks)
      → values_of (at_keys (k ∷ ks) es) ≡ found (lookup (is_at (nat_cmp k)) es) ++ values_of (at_keys ks es)
      → values_of (at_keys (k ∷ ks) (e ∷ es)) ≡ found (lookup (is_at (nat_cmp k)) (e ∷ es)) ++ values_of (at_keys ks (e ∷ es))
  later_at k ks e es up ih = grind (arith, nat_tests, cond-false, not_among, at_earlier)

  at_keys-first : (k : ℕ) (ks : List ℕ) (es : List (ℕ × X)) → IsStrictlySortedBy nat_cmp (k ∷ ks) → IsStrictlySortedBy nat_cmp (keys_of es)
      → values_of (at_keys (k ∷ ks) es) ≡ found (lookup (is_at (nat_cmp k)) es) ++ values_of (at_keys ks es)
  at_keys-first k ks [] sk se = refl
  at_keys-first k ks (e ∷ es) sk se = elim (cases_order k e.0) [
    | inl same ↦ first_at k ks e es (above_first k e.0 (keys_of es) (omega (arith, same)) se) (above_first k k ks (omega arith) sk) same
    | inr (inl l) ↦ none_at k ks (e ∷ es) (l, above_first k e.0 (keys_of es) (omega (arith, l)) se)
    | inr (inr g) ↦ later_at k ks e es (g, above_first e.0 k ks (omega (arith, g)) sk) (at_keys-first k ks es sk (sorted_tail nat_cmp e.0 (keys_of es) se))
  ]

  -- ---- what is left

  at_others-first : (k : ℕ) (ks : List ℕ) (es : List (ℕ × X)) → IsStrictlySortedBy nat_cmp (k ∷ ks) → IsStrictlySortedBy nat_cmp (keys_of es)
      → at_others (k ∷ ks) es ≡ at_others ks (remove_entry (is_at (nat_cmp k)) es)
  at_others-first k ks [] sk se = refl
  at_others-first k ks (e ∷ es) sk se =
      grind (arith, nat_tests, at_others-first k ks es sk (sorted_tail nat_cmp e.0 (keys_of es) se), at_same, or_left, cond-false, not, cond-true, above_first, part_above, remove_above, at_others, not_among, at_earlier)

  -- an entry that is taken out at a key below the others isn't one of those
  at_keys-removed : (k : ℕ) (ks : List ℕ) (es : List (ℕ × X)) → IsStrictlySortedBy nat_cmp (k ∷ ks)
      → at_keys ks (remove_entry (is_at (nat_cmp k)) es) ≡ at_keys ks es
  at_keys-removed k ks [] sk = refl
  at_keys-removed k ks (e ∷ es) sk = grind (arith, nat_tests, at_keys-removed k ks es sk, at_same, not_among, above_first, at_apart)

  -- ---- a turn of a loop over the keys

  module _ (keys ks : List ℕ) (k : ℕ) (es left : List (ℕ × X)) (cut : keys ≡ k ∷ ks) (sk : IsStrictlySortedBy nat_cmp keys) (se : IsStrictlySortedBy nat_cmp (keys_of es)) where
    pub found_next : values_of (at_keys keys es) ≡ found (lookup (is_at (nat_cmp k)) es) ++ values_of (at_keys ks es)
    found_next = ap (λ (l : List ℕ). values_of (at_keys l es)) cut ∙ at_keys-first k ks es (subst (IsStrictlySortedBy nat_cmp) cut sk) se

    pub taken_next : (old new all : List X) (o : Option X) → o ≡ lookup (is_at (nat_cmp k)) es → left ≡ remove_entry (is_at (nat_cmp k)) es → new ≡ old ++ found o
        → old ++ values_of (at_keys keys es) ≡ all → new ++ values_of (at_keys ks left) ≡ all
    taken_next old new all o hit gone more so_far =
        let rest : at_keys ks left ≡ at_keys ks es = ap (at_keys ks) gone ∙ at_keys-removed k ks es (subst (IsStrictlySortedBy nat_cmp) cut sk) in
        let taken : new ≡ old ++ found (lookup (is_at (nat_cmp k)) es) = more ∙ ap (λ (x : Option X). old ++ found x) hit in
        (λ i. taken i ++ values_of (rest i)) ∙ grind (append_assoc old (found (lookup (is_at (nat_cmp k)) es)) (values_of (at_keys ks es)), found_next, so_far, arith)

    pub left_next : (all : List (ℕ × X)) → left ≡ remove_entry (is_at (nat_cmp k)) es → at_others keys es ≡ all → at_others ks left ≡ all
    left_next all gone so_far =
        ap (at_others ks) gone ∙ sym (at_others-first k ks es (subst (IsStrictlySortedBy nat_cmp) cut sk) se)
        ∙ ap (λ (l : List ℕ). at_others l es) (sym cut) ∙ so_far

  -- ---- no key, and a new last one

  pub at_keys-none : (es : List (ℕ × X)) → at_keys [] es ≡ []
  at_keys-none [] = refl
  at_keys-none (e ∷ es) = at_keys-none es

  pub at_others-none : (es : List (ℕ × X)) → at_others [] es ≡ es
  at_others-none [] = refl
  at_others-none (e ∷ es) = ap (λ (l : List (ℕ × X)). e ∷ l) (at_others-none es)

  pub insert_last : (es : List (ℕ × X)) (k : ℕ) (x : X) → AllByRecursion (λ e. e.0 < k) es → insert_entry nat_cmp es k x ≡ es ++ (k, x) ∷ []
  insert_last [] k x h = refl
  insert_last (e ∷ es) k x h = grind (arith, nat_tests, insert_last es k x h.1)

  pub remove_last : (es : List (ℕ × X)) (k : ℕ) (x : X) → AllByRecursion (λ e. e.0 < k) es → remove_entry (is_at (nat_cmp k)) (es ++ (k, x) ∷ []) ≡ es
  remove_last [] k x h = cond-true (is_at (nat_cmp k) k) [] ((k, x) ∷ []) (at_same k k refl)
  remove_last (e ∷ es) k x h = grind (arith, nat_tests, remove_last es k x h.1, at_earlier k e.0 h.0, cond-false)

  pub lookup_past : (es : List (ℕ × X)) (k : ℕ) → AllByRecursion (λ e. e.0 < k) es → lookup (is_at (nat_cmp k)) es ≡ None
  lookup_past [] k h = refl
  lookup_past (e ∷ es) k h = cond-false (is_at (nat_cmp k) e.0) (Some e.1) (lookup (is_at (nat_cmp k)) es) (at_earlier k e.0 h.0) ∙ lookup_past es k h.1
