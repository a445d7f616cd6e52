-- The elements of an accepted region are elements of the variable, and their bytes lie within the file of the records that it needs.
use Rattle.serial_spec.proofs.Words.{◌≡◌, ℕ, zero, suc, ◌+◌, ◌-◌, ◌<◌, ◌≤◌, refl, sym, ◌∙◌, List, [], ◌∷◌, length, map, drop, Bool, true, false, Option, Some, None, arith, mul-le-mul_right, nat_tests, list_any, AllByRecursion, range_with_len, flat_map, slice_get, MatchBool, ◌==◌, length-map, or_first_false, or_second_false, equal_suc, and_first, and_second, each_map, each_append, each_flat_map, each_weaker, Header, Var, Region, Direction, Put, Code, Post, size_of, product, length_of, lengths, starts_with_zero, without_record, end_of, place, record_of, within_record, HasRecord, IsIndex, IsElementBelow, is_sound, coordinates, index_at, elements, places, bound, bounds, some_edge, some_start, other_shape, asks_too_much, first_code, check_var, check_some, check, records_of, records_of_some, needed, needed_by, Puts, bytes_of, bytes_of_some, covered, common_steps}
use Rattle.nc_base.specs.declared.answer.Code.TheVariants as code
use Rattle.serial_spec.proofs.RowLaws.{row_below}
use Rattle.serial_spec.proofs.RoomLaws.{none_later, element_inside, end_grows}

-- ---- coordinates

pub all_below : (P : ℕ → Type 0) (a k n : ℕ) → a + k ≤ n → ((i : ℕ) → i < n → P i) → AllByRecursion P (range_with_len a k)
all_below P a zero n h f = tt
all_below P a (suc k) n h f = (f a (omega arith), all_below P (a + 1) k n (omega arith) f)

pub coordinates_all : (counts : List ℕ) → AllByRecursion (IsIndex counts) (coordinates counts)
coordinates_all [] = (tt, tt)
coordinates_all (n ∷ counts) =
    grind (arith, nat_tests, each_flat_map (IsIndex (n ∷ counts)) (λ i. map (λ c. i ∷ c) (coordinates counts)) (range_with_len 0 n), all_below (λ i. AllByRecursion (IsIndex (n ∷ counts)) (map (λ c. i ∷ c) (coordinates counts))) 0 n n, each_map, each_weaker, coordinates_all counts, coordinates)

-- ---- below the bounds

abbrev BelowBounds : List (Option ℕ) → List ℕ → Type 0
BelowBounds [] [] = Unit {0}
BelowBounds [] (i ∷ index) = ⊥
BelowBounds (b ∷ bounds) [] = ⊥
BelowBounds (None ∷ bounds) (i ∷ index) = BelowBounds bounds index
BelowBounds (Some n ∷ bounds) (i ∷ index) = (i < n) × BelowBounds bounds index

below_bounds : (bs : List (Option ℕ)) (starts counts strides c : List ℕ) → length starts ≡ length bs → length counts ≡ length bs → length strides ≡ length bs
    → IsIndex counts c → some_edge bs starts counts strides ≡ false → BelowBounds bs (index_at starts strides c)
below_bounds [] [] counts strides c a b d h e = tt
below_bounds (x ∷ bs) (s ∷ starts) (n ∷ counts) (t ∷ strides) [] a b d h e = absurd h
below_bounds (x ∷ bs) (s ∷ starts) (n ∷ counts) (t ∷ strides) (i ∷ c) a b d h e =
    grind (arith, nat_tests, mul-le-mul_right, or_first_false, below_bounds bs starts counts strides c, or_second_false, h.1, index_at)
below_bounds _ _ _ _ c a b d h e = absurd (omega arith)

-- ---- from bounds to lengths

-- lengths that are not 0 bound each coordinate
fixed_index : (way : Direction) (known : ℕ) (ls index : List ℕ) → AllByRecursion (λ n. (n == 0) ≡ false) ls → BelowBounds (map (bound way known) ls) index → IsIndex ls index
fixed_index way known [] [] some h = tt
fixed_index way known (n ∷ ls) (i ∷ index) some h = grind (arith, nat_tests, fixed_index way known ls index some.1)
fixed_index way known _ _ some h = absurd h

-- below the bounds, and in a record below n: in words of the lengths alone
by_lengths : (way : Direction) (known n : ℕ) (ls index : List ℕ) → AllByRecursion (λ m. (m == 0) ≡ false) (drop 1 ls)
    → BelowBounds (map (bound way known) ls) index → (starts_with_zero ls ≡ true → record_of index < n)
    → MatchBool (starts_with_zero ls) (HasRecord index × IsIndex (without_record ls) (within_record index)) (IsIndex (without_record ls) index)
    × MatchBool (starts_with_zero ls) (record_of index < n) (Unit {0})
by_lengths way known n [] index some h below = (fixed_index way known [] index tt h, tt)
by_lengths way known n (zero ∷ ls) [] some h below = absurd h
by_lengths way known n (zero ∷ ls) (r ∷ index) some h below = grind (arith, nat_tests, fixed_index way known ls index some)
by_lengths way known n (suc m ∷ ls) index some h below = grind (arith, nat_tests, equal_suc m, fixed_index way known (suc m ∷ ls) index ((equal_suc m), some) h)

-- ---- what an accepted region keeps

first_ok : (b : Bool) (c : Code) (cs : List (Bool × Code)) → (c ≡ code.Ok → ⊥) → first_code ((b, c) ∷ cs) ≡ code.Ok → (b ≡ false) × (first_code cs ≡ code.Ok)
first_ok b c cs n h = grind (arith, nat_tests)

pub record IsAccepted (header : Header) (v : Var) (g : Region) (known : ℕ) (way : Direction) : Type 0 where
  pub starts : length g.start ≡ length v.dims
  pub counts : length g.count ≡ length v.dims
  pub strides : length g.stride ≡ length v.dims
  pub edges : some_edge (bounds header v known way) g.start g.count g.stride ≡ false
  pub small : asks_too_much header v g ≡ false

pub accepted : (header : Header) (v : Var) (g : Region) (known : ℕ) (way : Direction) → check_var header v g known way ≡ code.Ok → IsAccepted header v g known way
accepted header v g known way h =
    let large : List (Bool × Code) = (asks_too_much header v g, code.ETooLarge) ∷ [] in
    let edges : List (Bool × Code) = (some_edge (bounds header v known way) g.start g.count g.stride, code.EEdge) ∷ large in
    let starts : List (Bool × Code) = (some_start (bounds header v known way) g.start g.count, code.EInvalCoords) ∷ edges in
    let strides : List (Bool × Code) = (list_any (λ d. d == 0) g.stride, code.EStride) ∷ starts in
    let a = first_ok (other_shape (length v.dims) g) code.EInvalCoords strides (λ e. absurd cc) h in
    grind (arith, nat_tests, first_ok (some_start (bounds header v known way) g.start g.count) code.EInvalCoords edges, first_ok (some_edge (bounds header v known way) g.start g.count g.stride) code.EEdge large, first_ok (asks_too_much header v g) code.ETooLarge [], and_first, and_second)

-- ---- its elements

some_product : (counts c : List ℕ) → IsIndex counts c → (product counts == 0) ≡ false
some_product counts c h = let l = row_below counts c h in grind (arith, nat_tests)

-- the record of an element is below those that the region needs
record_needed : (header : Header) (v : Var) (g : Region) (c : List ℕ) → length g.start ≡ length v.dims → length g.count ≡ length v.dims → length g.stride ≡ length v.dims
    → IsIndex g.count c → starts_with_zero (lengths header v) ≡ true → record_of (index_at g.start g.stride c) < records_of header v g
record_needed header v g c a b d h e = grind (arith, common_steps, some_product g.count c h)

accepted_at : (header : Header) (k : ℕ) (v : Var) (g : Region) (known : ℕ) (way : Direction) (c : List ℕ) → is_sound header ≡ true → slice_get header.vars k ≡ Some v
    → IsAccepted header v g known way → IsIndex g.count c → IsElementBelow header v (records_of header v g) (index_at g.start g.stride c)
accepted_at header k v g known way c sound there a h =
    let one : length (bounds header v known way) ≡ length v.dims = length-map (lengths header v) (bound way known) ∙ length-map v.dims (λ id. length_of (slice_get header.dims id)) in
    grind (arith, nat_tests, by_lengths way known (records_of header v g) (lengths header v) (index_at g.start g.stride c), none_later header k v sound there, below_bounds (bounds header v known way) g.start g.count g.stride c (a.starts ∙ sym one) (a.counts ∙ sym one), record_needed header v g c a.starts a.counts a.strides h)

-- the elements of an accepted region are elements of the variable, in records below those that it needs
pub accepted_elements : (header : Header) (k : ℕ) (v : Var) (g : Region) (known : ℕ) (way : Direction) → is_sound header ≡ true → slice_get header.vars k ≡ Some v
    → check_var header v g known way ≡ code.Ok → AllByRecursion (IsElementBelow header v (records_of header v g)) (elements g)
accepted_elements header k v g known way sound there ok =
    grind (arith, common_steps, each_map (IsElementBelow header v (records_of header v g)) (λ c. index_at g.start g.stride c) (coordinates g.count), each_weaker (IsIndex g.count) (λ c. IsElementBelow header v (records_of header v g) (index_at g.start g.stride c)), accepted_at header k v g known way, accepted header v g known way ok, coordinates_all g.count)

-- ---- its bytes

range_below : (x n m : ℕ) → x + n ≤ m → AllByRecursion (λ y. y < m) (range_with_len x n)
range_below x n m h = all_below (λ y. y < m) x n m h (λ i l. l)

accepted_bytes : (header : Header) (first k : ℕ) (v : Var) (g : Region) (known : ℕ) (way : Direction) → is_sound header ≡ true → slice_get header.vars k ≡ Some v
    → check_var header v g known way ≡ code.Ok
    → AllByRecursion (λ x. x < end_of header first (records_of header v g)) (flat_map (λ x. range_with_len x (size_of v.kind)) (places header v g))
accepted_bytes header first k v g known way sound there ok =
    let last = end_of header first (records_of header v g) in
    let inside : (i : List ℕ) → IsElementBelow header v (records_of header v g) i → AllByRecursion (λ y. y < last) (range_with_len (place header v i) (size_of v.kind)) = λ i h. range_below (place header v i) (size_of v.kind) last (element_inside header first (records_of header v g) k v i there h) in
    each_flat_map (λ x. x < last) (λ x. range_with_len x (size_of v.kind)) (places header v g)
    (each_map _ (λ i. place header v i) (elements g) (each_weaker (IsElementBelow header v (records_of header v g)) _ inside (elements g) (accepted_elements header k v g known way sound there ok)))

-- the bytes of an accepted post lie below the end for the records that it needs
pub post_inside : (header : Header) (first : ℕ) (post : Post) (known : ℕ) (way : Direction) → is_sound header ≡ true
    → check header post.var post.region known way ≡ code.Ok → AllByRecursion (λ x. x < end_of header first (needed header post)) (bytes_of header post)
post_inside header first post known way sound ok = by_var (slice_get header.vars post.var) refl ok
  where
    by_var : (o : Option Var) → slice_get header.vars post.var ≡ o → check_some header o post.region known way ≡ code.Ok
        → AllByRecursion (λ x. x < end_of header first (records_of_some header o post.region)) (bytes_of_some header o post)
    by_var None e h = tt
    by_var (Some v) e h = accepted_bytes header first post.var v post.region known way sound e h

-- the bytes of accepted puts lie below the end for the records that they need
pub puts_inside : (header : Header) (first : ℕ) (puts : Puts) (n : ℕ) (known : ℕ × Post → ℕ) → is_sound header ≡ true
    → AllByRecursion (λ p. check header p.1.var p.1.region (known p) Put ≡ code.Ok) puts → needed_by header puts ≤ n
    → AllByRecursion (λ x. x < end_of header first n) (covered header puts)
puts_inside header first [] n known sound ok l = tt
puts_inside header first (p ∷ puts) n known sound ok l =
    let own : needed header p.1 ≤ n = omega (arith, l) in
    grind (arith, common_steps, end_grows header first (needed header p.1) n own, each_append (λ x. x < end_of header first n) (bytes_of header p.1) (covered header puts), each_weaker (λ x. x < end_of header first (needed header p.1)) (λ x. x < end_of header first n), post_inside header first p.1 (known p) Put sound ok.0, puts_inside header first puts n known sound ok.1)
