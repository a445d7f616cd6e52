-- The boxes of a range, as they are found row by row.
use Rattle.fill_records.proofs.Words.{◌≡◌, ℕ, zero, suc, ◌+◌, ◌-◌, ◌*◌, ◌/◌, ◌%◌, ◌<◌, ◌≤◌, refl, sym, ap, inl, inr, ◌⊎◌, List, [], ◌∷◌, ◌++◌, length, map, replicate, take, drop, append_assoc, length-append, arith, mul-div_cancel, mul-mod_left, eqb-false, map-append, append-nil, length-map, take_all, some_factor, Part, product, boxes, in_row, whole_rows, at_row, boxes_before, nat_tests, eqb-true, ltb-true, ltb-false}

-- ---- boxes in a row

one_more : (n : ℕ) (xs : List ℕ) → replicate (suc n) 1 ++ xs ≡ replicate n 1 ++ 1 ∷ xs
one_more zero xs = refl
one_more (suc n) xs = ap (λ ys. 1 ∷ ys) (one_more n xs)

at_row_more : (row : List ℕ) (i : ℕ) (p : Part) → at_row (row ++ i ∷ []) p ≡ at_row row (record { start = i ∷ p.start; count = 1 ∷ p.count })
at_row_more row i p = grind (arith, nat_tests, length-append row (i ∷ []), one_more (length row) p.count, append_assoc)

in_row_more : (row : List ℕ) (i : ℕ) (parts : List Part) → map (λ p. at_row (row ++ i ∷ []) p) parts ≡ map (λ p. at_row row p) (in_row i parts)
in_row_more row i [] = refl
in_row_more row i (p ∷ parts) = λ t. at_row_more row i p t ∷ in_row_more row i parts t

pub at_first : (parts : List Part) → map (λ p. at_row [] p) parts ≡ parts
at_first [] = refl
at_first (p ∷ parts) = grind (arith, nat_tests, at_first parts)

-- ---- no element

pub no_boxes : (lengths : List ℕ) (x : ℕ) → boxes lengths x x ≡ []
no_boxes [] x = grind (arith, nat_tests, ltb-true)
no_boxes (n ∷ lengths) x = grind (arith, nat_tests, in_row, no_boxes lengths (x % product lengths), eqb-false)

pub found_none : (row lengths : List ℕ) (from to : ℕ) (old : List Part) → from ≡ to → old ≡ old ++ map (λ p. at_row row p) (boxes lengths from to)
found_none row lengths from to old e = grind (arith, nat_tests, no_boxes lengths to, append-nil old)

-- ---- what a step of the cutting found

pub found_row : (row below : List ℕ) (i : ℕ) (parts old new : List Part) → below ≡ row ++ i ∷ [] → new ≡ old ++ map (λ p. at_row below p) parts
    → new ≡ old ++ map (λ p. at_row row p) (in_row i parts)
found_row row below i parts old new e f = grind (arith, nat_tests, in_row_more row i parts)

pub found_rows : (row later : List ℕ) (lengths : List ℕ) (n size from to : ℕ) (old mid new : List Part) → size ≡ product lengths
    → (from / size ≡ to / size → ⊥) → later ≡ row
    → mid ≡ old ++ map (λ p. at_row row p) (boxes_before lengths from (to / size))
    → new ≡ mid ++ map (λ p. at_row later p) (in_row (to / size) (boxes lengths 0 (to % size)))
    → new ≡ old ++ map (λ p. at_row row p) (boxes (n ∷ lengths) from to)
found_rows row later lengths n size from to old mid new s e r f g = grind (arith, nat_tests, append_assoc, map-append, eqb-true)

pub found_counts : (row counts : List ℕ) (from to : ℕ) (old new : List Part) → 1 ≤ length counts
    → ((count : ℕ) → new ≡ old ++ map (λ p. at_row row p) (boxes (count ∷ take (length counts - 1) (drop 1 counts)) from to)) → new ≡ old ++ map (λ p. at_row row p) (boxes counts from to)
found_counts row [] from to old new h f = absurd (omega arith)
found_counts row (n ∷ counts) from to old new h f = grind (arith, nat_tests, f n, take_all (suc (length counts) - 1) counts)

-- the boxes of the whole range
pub found_first : (row lengths counts : List ℕ) (from to : ℕ) (none found result : List Part) → row ≡ [] → none ≡ [] → counts ≡ lengths
    → found ≡ none ++ map (λ p. at_row row p) (boxes counts from to) → result ≡ found → result ≡ boxes lengths from to
found_first row lengths counts from to none found result e n s f g = grind (arith, nat_tests, at_first (boxes lengths from to))

-- ---- how many there are

in_row_long : (i : ℕ) (parts : List Part) → length (in_row i parts) ≡ length parts
in_row_long i parts = length-map parts (λ (p : Part). let q : Part = record { start = i ∷ p.start; count = 1 ∷ p.count } in q)

whole_few : (lengths : List ℕ) (first last : ℕ) → length (whole_rows lengths first last) ≤ 1
whole_few lengths first last = grind (arith, nat_tests)

-- ---- the bound

less_or_same : (a b : ℕ) → a ≤ b → (a ≡ b) ⊎ (a < b)
less_or_same a b h = grind (arith, nat_tests, ltb-true, ltb-false)

none_few : (lengths : List ℕ) (from to few : ℕ) → from ≡ to → length (boxes lengths from to) ≤ few
none_few lengths from to few e = grind (arith, nat_tests, no_boxes lengths to)

-- the numbers below `to`
front_few : (lengths : List ℕ) (to : ℕ) → length (boxes lengths 0 to) ≤ length lengths + 1
front_few [] to = grind (arith, nat_tests)
front_few (n ∷ lengths) to =
    let rest = front_few lengths (to % product lengths) in
    grind (arith, nat_tests, in_row_long, eqb-true, eqb-false, length-append)

-- the numbers from `from` to the last one
back_few : (lengths : List ℕ) (from : ℕ) → from ≤ product lengths → length (boxes lengths from (product lengths)) ≤ length lengths + 1
back_few [] from h = grind (arith, nat_tests)
back_few (n ∷ lengths) from h = elim (less_or_same from (n * product lengths) h) [
  | inl e ↦ none_few (n ∷ lengths) from (n * product lengths) (suc (length lengths) + 1) e
  | inr l ↦
      (let some = some_factor n (product lengths) from l in
      let last : n * product lengths / product lengths ≡ n = mul-div_cancel n some in
      grind (arith, nat_tests, back_few lengths (from % product lengths), whole_few, in_row_long, length-append, none_few lengths 0 (n * product lengths % product lengths) 0 (sym (mul-mod_left n (product lengths))), eqb-true, eqb-false))
]

pub boxes_few : (lengths : List ℕ) (from to : ℕ) → from ≤ to → to ≤ product lengths → length (boxes lengths from to) ≤ 2 * length lengths + 1
boxes_few [] from to h k = grind (arith, nat_tests)
boxes_few (n ∷ lengths) from to h k =
    grind (arith, nat_tests, less_or_same from to h, none_few (n ∷ lengths) from to (2 * suc (length lengths) + 1), some_factor n (product lengths) from, boxes_few lengths (from % product lengths) (to % product lengths), whole_few, in_row_long, length-append, back_few lengths (from % product lengths), front_few lengths (to % product lengths), eqb-true, eqb-false)
