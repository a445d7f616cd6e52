-- The items under a number, of a list and of a longer one.
use Rattle.ruled_line.proofs.Words.{◌≡◌, ◌≢◌, ◌≤◌, ◌+◌, ℕ, Bool, cond, map, List, [], ◌∷◌, ◌++◌, length, sym, refl, ap, ◌∙◌, append_assoc, length-append, eq-eqb, ne_eqb, arith, filter, ◌==◌, map-append, length-map, append-nil, filter-append, length-filter, count_by-le-length, items_under, nat_tests}

module _ {T : Type 0} where
  abbrev pub is_under : ℕ → ℕ × T → Bool
  is_under number p = p.0 == number

  abbrev pub item_of : ℕ × T → T
  item_of p = p.1

  pub items_under-append : (number : ℕ) (xs ys : List (ℕ × T)) → items_under number (xs ++ ys) ≡ items_under number xs ++ items_under number ys
  items_under-append number xs ys =
      ap (λ l. map item_of l) (filter-append (is_under number) xs ys) ∙ map-append item_of (filter (is_under number) xs) (filter (is_under number) ys)

  items_under-same : (x : ℕ × T) (xs : List (ℕ × T)) → items_under x.0 (x ∷ xs) ≡ x.1 ∷ items_under x.0 xs
  items_under-same x xs = ap (λ b. map item_of (cond b (x ∷ filter (is_under x.0) xs) (filter (is_under x.0) xs))) (eq-eqb x.0 x.0 refl)

  items_under-other : (number : ℕ) (x : ℕ × T) → x.0 ≢ number → items_under number (x ∷ []) ≡ []
  items_under-other number x apart = ap (λ b. map item_of (cond b (x ∷ []) [])) (ne_eqb x.0 number apart)

  -- one item more stands at the back, under its number
  pub items_under-push_same : (x : ℕ × T) (taken items : List (ℕ × T)) → items_under x.0 (taken ++ (items ++ x ∷ [])) ≡ items_under x.0 (taken ++ items) ++ x.1 ∷ []
  items_under-push_same x taken items =
      ap (λ l. items_under x.0 l) (sym (append_assoc taken items (x ∷ [])))
      ∙ items_under-append x.0 (taken ++ items) (x ∷ [])
      ∙ ap (λ l. items_under x.0 (taken ++ items) ++ l) (items_under-same x [])

  -- and nothing more under another
  pub items_under-push_other : (number : ℕ) (x : ℕ × T) (taken items : List (ℕ × T)) → x.0 ≢ number → items_under number (taken ++ (items ++ x ∷ [])) ≡ items_under number (taken ++ items)
  items_under-push_other number x taken items apart =
      ap (λ l. items_under number l) (sym (append_assoc taken items (x ∷ [])))
      ∙ items_under-append number (taken ++ items) (x ∷ [])
      ∙ ap (λ l. items_under number (taken ++ items) ++ l) (items_under-other number x apart)
      ∙ append-nil (items_under number (taken ++ items))

  pub length-items_under : (number : ℕ) (xs : List (ℕ × T)) → length (items_under number xs) ≤ length xs
  length-items_under number xs =
      let mapped = length-map (filter (is_under number) xs) item_of in
      let passed = length-filter (is_under number) xs in
      let fewer = count_by-le-length (is_under number) xs in
      omega (arith, mapped, passed, fewer)

  -- where an item stands in a list, there is some item under its number
  pub items_under-some : (x : ℕ × T) (xs ys : List (ℕ × T)) → items_under x.0 (xs ++ x ∷ ys) ≢ []
  items_under-some x xs ys none =
      let sum : length (items_under x.0 xs) + length (items_under x.0 (x ∷ ys)) ≡ 0 = sym (length-append (items_under x.0 xs) (items_under x.0 (x ∷ ys))) ∙ ap (λ (l : List T). length l) (sym (items_under-append x.0 xs (x ∷ ys)) ∙ none) in
      grind (arith, nat_tests, items_under-same, x.0)

  -- where no number has an item, there is no item
  pub items_under-none : (xs : List (ℕ × T)) → ((number : ℕ) → items_under number xs ≡ []) → length xs ≡ 0
  items_under-none [] none = refl
  items_under-none (x ∷ xs) none = absurd (items_under-some x [] xs (none x.0))
