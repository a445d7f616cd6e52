-- The boxes of a range of row-major numbers have just the indices with these numbers, in order.
use Rattle.serial_spec.proofs.Words.{◌≡◌, ℕ, zero, suc, ◌+◌, ◌-◌, ◌*◌, ◌/◌, ◌%◌, ◌<◌, ◌≤◌, refl, sym, ◌∙◌, ap, List, [], ◌∷◌, ◌++◌, length, map, take, drop, replicate, arith, add-mul, le_of_mul-le-mul_right, mul-le-mul_right, drop-append-add, take-append-add, mod_below, drop-drop, drop-append-le, take-append-le, length-drop, map-append, append-nil, length-map, flat_map-append, flat_map, ◌==◌, range_with_len, some_factor, map_map, flat_same, Part, product, coordinates, boxes, in_row, whole_rows, shifted, box_indices, AreBoxes, part, part_joined, part_none, part_map, nat_tests, leb_tells, inl, inr, holds_or_not, ltb-true, ltb-false, common_steps}
use Rattle.serial_spec.proofs.ElementLaws.{length-coordinates}

-- ---- rows of one length

drop_rows : {A : Type 0} (f : ℕ → List A) (p : ℕ) → ((x : ℕ) → length (f x) ≡ p) → (i a n m : ℕ) → i ≤ n → m ≡ i * p
    → drop m (flat_map f (range_with_len a n)) ≡ flat_map f (range_with_len (a + i) (n - i))
drop_rows f p l zero a n m h e = grind (arith, nat_tests)
drop_rows f p l (suc i) a zero m h e = absurd (omega arith)
drop_rows f p l (suc i) a (suc n) m h e = grind (arith, nat_tests, drop_rows f p l i (a + 1) n (i * p) (omega arith) refl, drop-append-add)

take_rows : {A : Type 0} (f : ℕ → List A) (p : ℕ) → ((x : ℕ) → length (f x) ≡ p) → (i a n m : ℕ) → i ≤ n → m ≡ i * p
    → take m (flat_map f (range_with_len a n)) ≡ flat_map f (range_with_len a i)
take_rows f p l zero a n m h e = grind (arith, nat_tests)
take_rows f p l (suc i) a zero m h e = absurd (omega arith)
take_rows f p l (suc i) a (suc n) m h e =
    grind (arith, nat_tests, take_rows f p l i (a + 1) n (i * p) (omega arith) refl, take-append-add (f a) (flat_map f (range_with_len (a + 1) n)) (i * p))

-- whole rows
part_rows : {A : Type 0} (f : ℕ → List A) (p : ℕ) → ((x : ℕ) → length (f x) ≡ p) → (n q d from to : ℕ) → q + d ≤ n → from ≡ q * p → to ≡ from + d * p
    → part from to (flat_map f (range_with_len 0 n)) ≡ flat_map f (range_with_len q d)
part_rows f p l n q d from to h e g = grind (arith, nat_tests, drop_rows, take_rows)

-- within one row
part_within : {A : Type 0} (f : ℕ → List A) (p : ℕ) → ((x : ℕ) → length (f x) ≡ p) → (n q lo hi base from to : ℕ) → q < n → lo ≤ hi → hi ≤ p
    → base ≡ q * p → from ≡ base + lo → to ≡ base + hi → part from to (flat_map f (range_with_len 0 n)) ≡ part lo hi (f q)
part_within f p l n q lo hi base from to h k m b e g =
    let one : n - q ≡ suc (n - q - 1) = omega (arith, h) in
    let row : drop base (flat_map f (range_with_len 0 n)) ≡ flat_map f (range_with_len q (suc (n - q - 1))) = grind (arith, nat_tests, drop_rows f p l q 0 n base, one) in
    grind (arith, common_steps, row, drop-drop lo base (flat_map f (range_with_len 0 n)), drop-append-le lo (f q), length-drop lo (f q), take-append-le (to - from) (drop lo (f q)))

-- ---- the indices of boxes

-- the indices with first coordinate i
abbrev slice : List ℕ → ℕ → List (List ℕ)
slice lengths i = map (λ c. i ∷ c) (coordinates lengths)

slice_long : (lengths : List ℕ) (i : ℕ) → length (slice lengths i) ≡ product lengths
slice_long lengths i = length-map (coordinates lengths) (λ c. i ∷ c) ∙ length-coordinates lengths

map_flat : {A B C : Type 0} (f : B → C) (g : A → List B) (xs : List A) → map f (flat_map g xs) ≡ flat_map (λ x. map f (g x)) xs
map_flat f g [] = refl
map_flat f g (x ∷ xs) = grind (arith, nat_tests, map-append, map_flat f g xs)

rows_from : {B : Type 0} (f : ℕ → List B) (first a n : ℕ) → flat_map (λ i. f (first + i)) (range_with_len a n) ≡ flat_map f (range_with_len (first + a) n)
rows_from f first a zero = refl
rows_from f first a (suc n) = grind (arith, nat_tests, rows_from f first (a + 1) n)

-- a box of one first coordinate
row_indices : (i : ℕ) (p : Part) → box_indices (record { start = i ∷ p.start; count = 1 ∷ p.count }) ≡ map (λ c. i ∷ c) (box_indices p)
row_indices i p = grind (arith, nat_tests, append-nil, map_map)

in_row_indices : (i : ℕ) (parts : List Part) → flat_map box_indices (in_row i parts) ≡ map (λ c. i ∷ c) (flat_map box_indices parts)
in_row_indices i [] = refl
in_row_indices i (p ∷ parts) = grind (arith, common_steps, row_indices i p, in_row_indices i parts)

-- a box of whole rows
shifted_rows : (lengths : List ℕ) (first count : ℕ) → map (λ c. shifted (replicate (length lengths) 0) c) (coordinates lengths) ≡ coordinates lengths
    → map (λ c. shifted (first ∷ replicate (length lengths) 0) c) (coordinates (count ∷ lengths)) ≡ flat_map (slice lengths) (range_with_len first count)
shifted_rows lengths first count same =
    let plain : first + 0 ≡ first = omega arith in
    let each : (i : ℕ) → map (λ c. shifted (first ∷ replicate (length lengths) 0) c) (slice lengths i) ≡ slice lengths (first + i) = λ i. grind (arith, nat_tests, map_map) in
    grind (arith, common_steps, map_flat (λ c. shifted (first ∷ replicate (length lengths) 0) c) (slice lengths) (range_with_len 0 count), flat_same (λ i. map (λ c. shifted (first ∷ replicate (length lengths) 0) c) (slice lengths i)) (λ i. slice lengths (first + i)) each (range_with_len 0 count), rows_from (slice lengths) first 0 count)

unshifted : (lengths : List ℕ) → map (λ c. shifted (replicate (length lengths) 0) c) (coordinates lengths) ≡ coordinates lengths
unshifted [] = refl
unshifted (n ∷ lengths) = shifted_rows lengths 0 n (unshifted lengths)

whole_indices : (lengths : List ℕ) (first last : ℕ) → flat_map box_indices (whole_rows lengths first last) ≡ flat_map (slice lengths) (range_with_len first (last - first))
whole_indices lengths first last = grind (arith, nat_tests, append-nil, shifted_rows lengths first (last - first) (unshifted lengths), ltb-false)

-- ---- the law

-- what the boxes of each range within these lengths have
abbrev Right : List ℕ → Type 0
Right lengths = (from to : ℕ) → from ≤ to → to ≤ product lengths → AreBoxes lengths from to (boxes lengths from to)

-- the row of a number, and its place there
record InRow (size x q r : ℕ) : Type 0 where
  whole : q * size + r ≡ x
  less : r < size

row_less : (n size q x : ℕ) → q * size ≤ x → x < n * size → q < n
row_less n size q x h k = grind (arith, nat_tests)

-- a part of one row: of row n, which isn't there, it is empty
row_part : (n : ℕ) (lengths : List ℕ) (q lo hi from to : ℕ) → Right lengths → lo ≤ hi → hi ≤ product lengths → (lo < hi → q < n)
    → from ≡ q * product lengths + lo → to ≡ q * product lengths + hi
    → flat_map box_indices (in_row q (boxes lengths lo hi)) ≡ part from to (coordinates (n ∷ lengths))
row_part n lengths q lo hi from to ih h k there e f =
    in_row_indices q (boxes lengths lo hi) ∙ ap (λ ys. map (λ c. q ∷ c) ys) (ih lo hi h k) ∙ elim (leb_tells (suc lo) hi) [
      | inl l ↦
          sym (part_map (λ c. q ∷ c) (coordinates lengths) lo hi)
          ∙ sym (part_within (slice lengths) (product lengths) (slice_long lengths) n q lo hi (q * product lengths) from to (there l.1) h k refl e f)
      | inr l ↦
          ap (λ ys. map (λ c. q ∷ c) ys) (part_none (coordinates lengths) lo hi (omega (arith, l.1)))
          ∙ sym (part_none (coordinates (n ∷ lengths)) from to (omega (arith, l.1, e, f)))
    ]

-- whole rows, and the last row's part
from_front : (n : ℕ) (lengths : List ℕ) (p q r to : ℕ) → Right lengths → InRow (product lengths) to q r → to ≤ n * product lengths → p ≤ q
    → flat_map box_indices (whole_rows lengths p q ++ in_row q (boxes lengths 0 r)) ≡ part (p * product lengths) to (coordinates (n ∷ lengths))
from_front n lengths p q r to ih w h k =
    let upto : q * product lengths ≤ n * product lengths = omega arith in
    let few : q ≤ n = le_of_mul-le-mul_right upto (omega arith) in
    let over : p * product lengths ≤ q * product lengths = mul-le-mul_right (product lengths) k in
    let far : p * product lengths + (q - p) * product lengths ≡ q * product lengths = grind (arith, nat_tests, add-mul p (q - p) (product lengths)) in
    flat_map-append box_indices (whole_rows lengths p q) (in_row q (boxes lengths 0 r))
    ∙ (grind (arith, nat_tests, whole_indices, part_rows, slice_long, row_part, row_less, product))
    ∙ sym (part_joined (coordinates (n ∷ lengths)) (p * product lengths) (q * product lengths) to over (omega arith))

-- from within one row to a later one
first_part : (n : ℕ) (lengths : List ℕ) (p q r s from to : ℕ) → Right lengths → InRow (product lengths) from p r → InRow (product lengths) to q s
    → to ≤ n * product lengths → p < q
    → flat_map box_indices (in_row p (boxes lengths r (product lengths)) ++ whole_rows lengths (p + 1) q ++ in_row q (boxes lengths 0 s)) ≡ part from to (coordinates (n ∷ lengths))
first_part n lengths p q r s from to ih v w h k =
    let next : p + 1 ≤ q = omega arith in
    let far : (p + 1) * product lengths ≤ q * product lengths = mul-le-mul_right (product lengths) next in
    let one : (p + 1) * product lengths ≡ p * product lengths + product lengths = omega arith in
    let upto : q * product lengths ≤ n * product lengths = omega arith in
    let few : q ≤ n = le_of_mul-le-mul_right upto (omega arith) in
    grind (arith, common_steps, row_part, from_front, part_joined (coordinates (n ∷ lengths)) from ((p + 1) * product lengths) to)

rows_right : (n : ℕ) (lengths : List ℕ) → Right lengths → Right (n ∷ lengths)
rows_right n lengths ih from to h k =
    grind (arith, nat_tests, holds_or_not (from / product lengths == to / product lengths), row_part, row_less, mod_below, flat_map, box_indices, in_row, product, boxes, some_factor n (product lengths) from, holds_or_not (from % product lengths == 0), from_front n lengths (from / product lengths) (to / product lengths) (to % product lengths) to ih, first_part n lengths (from / product lengths) (to / product lengths) (from % product lengths))

pub boxes_right : (lengths : List ℕ) (from to : ℕ) → from ≤ to → to ≤ product lengths → AreBoxes lengths from to (boxes lengths from to)
boxes_right [] = grind (arith, nat_tests, part_none, ltb-true, ltb-false)
boxes_right (n ∷ lengths) = rows_right n lengths (boxes_right lengths)
