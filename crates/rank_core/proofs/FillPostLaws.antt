-- The boxes of a share of a record are regions of the variable, no two of which share an element.
use Rattle.rank_core.proofs.Words.{◌≡◌, ℕ, zero, suc, ◌+◌, ◌-◌, ◌*◌, ◌/◌, ◌%◌, ◌<◌, ◌≤◌, refl, sym, ap, subst, ◌∙◌, inl, inr, ◌⊎◌, List, [], ◌∷◌, ◌++◌, length, map, take, drop, replicate, Bool, true, false, ltb, eqb, ◌||◌, Some, add-one, arith, flat_map, slice_get, range_with_len, AllByRecursion, mul-div_cancel, cases_lt, length-append, length-map, div-add-mod', mod_below, slice_get_within, in_map, each_in, map_in, same_len, each_append, some_factor, Header, Part, no_boxes, In, div_grows, flat_in, in_flat, coordinate_row, box_indices, boxes, in_row, shifted, whole_rows, product, most_elements, row, IsIndex, box_region, is_record_past, coordinates, elements, index_at, coordinates_all, boxes_right, length-coordinates, IsSmall, get_left, get_right, in_at, nat_tests, common_steps}
use Rattle.rank_core.proofs.SeparateLaws.{AreSeparate}

-- ---- how many elements they have

length-box_indices : (p : Part) → length (box_indices p) ≡ product p.count
length-box_indices p = length-map (coordinates p.count) (shifted p.start) ∙ length-coordinates p.count

all_small : (n : ℕ) (parts : List Part) → length (flat_map box_indices parts) ≤ n → n ≤ most_elements → AllByRecursion IsSmall parts
all_small n [] h l = tt
all_small n (p ∷ parts) h l = grind (arith, nat_tests, length-append, length-box_indices, all_small n parts)

pub few_small : (lengths : List ℕ) (from to : ℕ) → from ≤ to → to ≤ product lengths → to - from ≤ most_elements → AllByRecursion IsSmall (boxes lengths from to)
few_small lengths from to h k few = grind (arith, common_steps, boxes_right lengths from to h k, all_small (to - from) (boxes lengths from to))

pub boxes_small : (header : Header) (number : ℕ) (lengths : List ℕ) (from to : ℕ) → from ≤ to → to ≤ product lengths
    → (ltb most_elements (to - from) || is_record_past header number) ≡ false → AllByRecursion IsSmall (boxes lengths from to)
boxes_small header number lengths from to h k e = grind (arith, nat_tests, few_small)

-- ---- they lie within the lengths

abbrev pub Fits : List ℕ → List ℕ → List ℕ → Type 0
Fits [] [] [] = Unit {0}
Fits (n ∷ lengths) (s ∷ starts) (c ∷ counts) = (s + c ≤ n) × Fits lengths starts counts
Fits _ _ _ = ⊥

abbrev pub FitsPart : List ℕ → Part → Type 0
FitsPart lengths p = Fits lengths p.start p.count

whole_fit : (lengths : List ℕ) → Fits lengths (replicate (length lengths) 0) lengths
whole_fit [] = tt
whole_fit (n ∷ lengths) = (omega arith, whole_fit lengths)

rows_fit : (n : ℕ) (lengths : List ℕ) (first last : ℕ) → last ≤ n → AllByRecursion (FitsPart (n ∷ lengths)) (whole_rows lengths first last)
rows_fit n lengths first last h = grind (arith, nat_tests, whole_fit lengths)

row_fits : (n : ℕ) (lengths : List ℕ) (i : ℕ) (parts : List Part) → i < n → AllByRecursion (FitsPart lengths) parts → AllByRecursion (FitsPart (n ∷ lengths)) (in_row i parts)
row_fits n lengths i [] h all = tt
row_fits n lengths i (p ∷ parts) h all = ((omega arith, all.0), row_fits n lengths i parts h all.1)

three : (P : Part → Type 0) (t u : Bool) (a b c : List Part) → (t ≡ true → AllByRecursion P a) → AllByRecursion P b → AllByRecursion P c
    → AllByRecursion P (elim t [ true ↦ a | false ↦ elim u [ true ↦ b | false ↦ c ] ])
three P true u a b c x y z = x refl
three P false true a b c x y z = y
three P false false a b c x y z = z

below_factor : (q n s x : ℕ) → q * s < x → x ≤ n * s → q < n
below_factor q n s x h k = grind (arith, nat_tests)

abbrev Fitting : List ℕ → Type 0
Fitting lengths = (from to : ℕ) → from ≤ to → to ≤ product lengths → AllByRecursion (FitsPart lengths) (boxes lengths from to)

last_fit : (n : ℕ) (lengths : List ℕ) (q r to : ℕ) → AllByRecursion (FitsPart lengths) (boxes lengths 0 r) → q * product lengths + r ≡ to → to ≤ n * product lengths
    → (0 < r) ⊎ (r ≤ 0) → AllByRecursion (FitsPart (n ∷ lengths)) (in_row q (boxes lengths 0 r))
last_fit n lengths q r to all e k (inl m) = row_fits n lengths q (boxes lengths 0 r) (below_factor q n (product lengths) to (omega (arith, e, m)) k) all
last_fit n lengths q r to all e k (inr m) = grind (arith, nat_tests, in_row, no_boxes, FitsPart)

rows_of : (n : ℕ) (lengths : List ℕ) (from to : ℕ) → Fitting lengths → from < to → to ≤ n * product lengths → AllByRecursion (FitsPart (n ∷ lengths)) (boxes (n ∷ lengths) from to)
rows_of n lengths from to ih l k =
    let size = product lengths in
    let some : 1 ≤ product lengths = some_factor n (product lengths) 0 (omega arith) in
    let front = div-add-mod' from (product lengths) in
    let back = div-add-mod' to (product lengths) in
    let low = mod_below from (product lengths) some in
    let high = mod_below to (product lengths) some in
    let first : from / product lengths < n = below_factor (from / product lengths) n (product lengths) to (omega (arith, front, l)) k in
    let whole : to / product lengths ≤ n = omega (arith, div_grows to (n * product lengths) (product lengths) some k, mul-div_cancel n {n = product lengths} some) in
    let last = last_fit n lengths (to / size) (to % size) to (ih 0 (to % size) (omega arith) (omega (arith, high))) back k (cases_lt 0 (to % size)) in
    three (FitsPart (n ∷ lengths)) (eqb (from / size) (to / size)) (eqb (from % size) 0)
    (in_row (from / size) (boxes lengths (from % size) (to % size)))
    (whole_rows lengths (from / size) (to / size) ++ in_row (to / size) (boxes lengths 0 (to % size)))
    (in_row (from / size) (boxes lengths (from % size) size) ++ whole_rows lengths (from / size + 1) (to / size) ++ in_row (to / size) (boxes lengths 0 (to % size)))
    (λ e. grind (arith, nat_tests, row_fits))
    (grind (arith, common_steps, each_append (FitsPart (n ∷ lengths)) (whole_rows lengths (from / size) (to / size)) (in_row (to / size) (boxes lengths 0 (to % size))) (rows_fit n lengths (from / size) (to / size) whole), in_row (to / size) (boxes lengths 0 (to % size)), rows_fit n lengths (from / size) (to / size) whole))
    (grind (arith, common_steps, each_append (FitsPart (n ∷ lengths)) (in_row (from / size) (boxes lengths (from % size) size) ++ whole_rows lengths (from / size + 1) (to / size)), in_row (from / size) (boxes lengths (from % size) size), in_row (to / size) (boxes lengths 0 (to % size)), each_append (FitsPart (n ∷ lengths)) (in_row (from / size) (boxes lengths (from % size) size)) (whole_rows lengths (from / size + 1) (to / size)), row_fits n lengths (from / size) (boxes lengths (from % size) size) first, rows_fit n lengths (from / size + 1) (to / size) whole))

pub boxes_fit : (lengths : List ℕ) → Fitting lengths
boxes_fit [] from to h k = grind (arith, nat_tests)
boxes_fit (n ∷ lengths) from to h k = grind (arith, nat_tests, boxes_fit lengths, rows_of, no_boxes, Fitting, FitsPart)

-- ---- no index stands twice

abbrev pub StandOnce : List (List ℕ) → Type 0
StandOnce xs = (i j : ℕ) (a : List ℕ) → slice_get xs i ≡ Some a → slice_get xs j ≡ Some a → i ≡ j

taken_at : (n : ℕ) (xs : List (List ℕ)) (k : ℕ) (c : List ℕ) → slice_get (take n xs) k ≡ Some c → slice_get xs k ≡ Some c
taken_at zero xs k c h = absurd cc
taken_at (suc n) (x ∷ xs) (suc k) c h = taken_at n xs k c h
taken_at ys m k c h = h

dropped_at : (m : ℕ) (xs : List (List ℕ)) (k : ℕ) (c : List ℕ) → slice_get (drop m xs) k ≡ Some c → slice_get xs (m + k) ≡ Some c
dropped_at zero xs k c h = let e : k ≡ zero + k = omega arith in ap (λ (i : ℕ). slice_get xs i) (sym e) ∙ h
dropped_at (suc m) [] k c h = absurd cc
dropped_at (suc m) (x ∷ xs) k c h = let e : suc m + k ≡ suc (m + k) = omega arith in ap (λ (i : ℕ). slice_get (x ∷ xs) i) e ∙ dropped_at m xs k c h

pub boxes_once : (lengths : List ℕ) (from to : ℕ) → from ≤ to → to ≤ product lengths → StandOnce (flat_map box_indices (boxes lengths from to))
boxes_once lengths from to h k = subst StandOnce (sym (boxes_right lengths from to h k)) once
  where
    number : (i : ℕ) (a : List ℕ) → slice_get (take (to - from) (drop from (coordinates lengths))) i ≡ Some a → from + i ≡ row lengths a
    number i a e = (coordinate_row lengths (from + i) a (dropped_at from (coordinates lengths) i a (taken_at (to - from) (drop from (coordinates lengths)) i a e))).1

    once : StandOnce (take (to - from) (drop from (coordinates lengths)))
    once i j a e f = let x = number i a e in let y = number j a f in omega arith

not_in_both : (xs ys : List (List ℕ)) (a : List ℕ) → StandOnce (xs ++ ys) → In xs a → In ys a → ⊥
not_in_both xs ys a once i j =
    let p = in_at xs a i in
    let q = in_at ys a j in
    let l = slice_get_within xs p.0 a p.1 in
    grind (arith, nat_tests, get_left xs ys p.0 l, get_right xs ys q.0 (length xs + q.0))

later_once : (xs ys : List (List ℕ)) → StandOnce (xs ++ ys) → StandOnce ys
later_once xs ys once i j a e f = grind (arith, nat_tests, get_right xs ys i (length xs + i), get_right xs ys j (length xs + j))

-- ---- the indices of a box in a record

pub shifted_is : (starts c : List ℕ) (k : ℕ) → length c ≤ k → index_at starts (replicate k 1) c ≡ shifted starts c
shifted_is [] c k h = refl
shifted_is (s ∷ starts) [] zero h = refl
shifted_is (s ∷ starts) [] (suc k) h = refl
shifted_is (s ∷ starts) (i ∷ c) zero h = absurd (omega arith)
shifted_is (s ∷ starts) (i ∷ c) (suc k) h = grind (arith, nat_tests, shifted_is starts c k)

record InRecord (number : ℕ) (p : Part) (a : List ℕ) : Type 0 where
  index : List ℕ
  is_one : In (box_indices p) index
  is : a ≡ number ∷ index

box_element : (number : ℕ) (p : Part) (a : List ℕ) → In (elements (box_region number p)) a → InRecord number p a
box_element number p a h =
    let c = map_in (λ c. index_at (number ∷ p.start) (replicate (length p.count + 1) 1) c) (coordinates (1 ∷ p.count)) a h in
    let i = flat_in (λ i. map (λ d. i ∷ d) (coordinates p.count)) (range_with_len 0 1) c.0 c.1 in
    let d = map_in (λ d. i.0 ∷ d) (coordinates p.count) c.0 i.2 in
    let long = same_len p.count d.0 (each_in (IsIndex p.count) (coordinates p.count) d.0 (coordinates_all p.count) d.1) in
    let ones : ◌≡◌ {A = List ℕ} (replicate (length p.count + 1) 1) (1 ∷ replicate (length p.count) 1) = ap (λ (n : ℕ). replicate n 1) (add-one (length p.count)) in
    let first : number + 0 * 1 ≡ number = omega arith in
    record {
      index = shifted p.start d.0;
      is_one = in_map (shifted p.start) (coordinates p.count) d.0 d.1;
      is = grind (arith, nat_tests, shifted_is, c.2, d.2);
    }

pub separate_boxes : (number : ℕ) (parts : List Part) → StandOnce (flat_map box_indices parts) → AreSeparate (map (box_region number) parts)
separate_boxes number [] once = tt
separate_boxes number (p ∷ parts) once = (
  λ h i a j k.
      grind (arith, common_steps, map_in (box_region number) parts h i, box_element number p a j, box_element number (map_in (box_region number) parts h i).0 a, not_in_both (box_indices p) (flat_map box_indices parts) (box_element number p a j).index once, in_flat box_indices parts (map_in (box_region number) parts h i).0 (box_element number p a j).index (map_in (box_region number) parts h i).1),
  separate_boxes number parts (later_once (box_indices p) (flat_map box_indices parts) once),
)
