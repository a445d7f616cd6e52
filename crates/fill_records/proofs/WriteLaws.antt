-- Writes of a value one after another are one write of its bytes over and over.
use Rattle.fill_records.proofs.Words.{◌≡◌, ℕ, zero, suc, ◌+◌, ◌*◌, ◌≤◌, refl, sym, ◌∙◌, ap, List, [], ◌∷◌, ◌++◌, length, map, take, drop, false, append_assoc, length-append, arith, flat_map, fold, range_with_len, take_at, map-append, drop-drop, places, drop-append-add, fold-map, map_map, Header, Var, size_of, written, fill_bytes, fill_var, product, inner_lengths, is_record, slab, row, place, coordinates, written-inside, length-written_inside, write_none, place_fixed, repeated, nat_tests}
use Rattle.fill_records.proofs.RepeatedLaws.{repeated_long, value_first}

-- ---- two writes

-- the second write begins where the first one ends
pub write_next : (file xs ys : List ℕ) (place next : ℕ) → next ≡ place + length xs → next + length ys ≤ length file
    → written (written file place xs) next ys ≡ written file place (xs ++ ys)
write_next file xs ys place next e h =
    let first = written-inside file place xs (omega arith) in
    let long = length-written_inside file place xs (omega arith) in
    let both : length (xs ++ ys) ≡ length xs + length ys = length-append xs ys in
    let end : next + length ys ≡ place + length (xs ++ ys) = omega arith in
    written-inside (written file place xs) next ys (omega arith)
    ∙ (λ t. front first t ++ ys ++ back first t)
    ∙ ap (λ bytes. bytes ++ drop (next + length ys) file) (append_assoc (take place file) xs ys)
    ∙ ap (λ (n : ℕ). take place file ++ (xs ++ ys) ++ drop n file) end
    ∙ sym (written-inside file place (xs ++ ys) (omega arith))
  where
    head_long : length (take place file ++ xs) ≡ next
    head_long = grind (arith, places)

    front : written file place xs ≡ take place file ++ xs ++ drop (place + length xs) file → take next (written file place xs) ≡ take place file ++ xs
    front f = ap (λ bytes. take next bytes) f ∙ take_at (take place file ++ xs) (drop (place + length xs) file) next head_long

    back : written file place xs ≡ take place file ++ xs ++ drop (place + length xs) file → drop (next + length ys) (written file place xs) ≡ drop (next + length ys) file
    back f =
        let split : next + length ys ≡ length (take place file ++ xs) + length ys = omega (arith, head_long) in
        let whole : place + length xs + length ys ≡ next + length ys = omega arith in
        ap (λ bytes. drop (next + length ys) bytes) f
        ∙ ap (λ (n : ℕ). drop n (take place file ++ xs ++ drop (place + length xs) file)) split
        ∙ drop-append-add (take place file ++ xs) (drop (place + length xs) file) (length ys)
        ∙ drop-drop (length ys) (place + length xs) file
        ∙ ap (λ (n : ℕ). drop n file) whole

-- ---- elements in row-major order

range_joined : (a m n k : ℕ) → k ≡ m + n → range_with_len a m ++ range_with_len (a + m) n ≡ range_with_len a k
range_joined a zero n k e = grind (arith, nat_tests)
range_joined a (suc m) n zero e = absurd (omega arith)
range_joined a (suc m) n (suc k) e = grind (arith, nat_tests, range_joined (a + 1) m n k (omega arith))

range_moved : (b a n : ℕ) → map (λ k. b + k) (range_with_len a n) ≡ range_with_len (b + a) n
range_moved b a zero = refl
range_moved b a (suc n) = grind (arith, nat_tests, range_moved b (a + 1) n)

map_same : {A B : Type 0} (f g : A → B) → ((x : A) → f x ≡ g x) → (xs : List A) → map f xs ≡ map g xs
map_same f g h [] = refl
map_same f g h (x ∷ xs) = λ t. h x t ∷ map_same f g h xs t

rows_in_order : (lengths : List ℕ) → map (λ index. row lengths index) (coordinates lengths) ≡ range_with_len 0 (product lengths)
rows_in_order [] = refl
rows_in_order (n ∷ lengths) =
    let none : 0 * product lengths ≡ 0 = omega arith in
    from_row (rows_in_order lengths) 0 n ∙ ap (λ (a : ℕ). range_with_len a (n * product lengths)) none
  where
    one_row : map (λ index. row lengths index) (coordinates lengths) ≡ range_with_len 0 (product lengths)
        → (a : ℕ) → map (λ index. row (n ∷ lengths) index) (map (λ c. a ∷ c) (coordinates lengths)) ≡ range_with_len (a * product lengths) (product lengths)
    one_row ih a = grind (arith, nat_tests, map_map, range_moved (a * product lengths) 0 (product lengths))

    from_row : map (λ index. row lengths index) (coordinates lengths) ≡ range_with_len 0 (product lengths)
        → (a k : ℕ) → map (λ index. row (n ∷ lengths) index) (flat_map (λ i. map (λ c. i ∷ c) (coordinates lengths)) (range_with_len a k))
        ≡ range_with_len (a * product lengths) (k * product lengths)
    from_row ih a zero = let none : 0 ≡ zero * product lengths = omega arith in ap (λ (m : ℕ). range_with_len (a * product lengths) m) none
    from_row ih a (suc k) =
        let next : (a + 1) * product lengths ≡ a * product lengths + product lengths = omega arith in
        map-append (λ index. row (n ∷ lengths) index) (map (λ c. a ∷ c) (coordinates lengths)) (flat_map (λ i. map (λ c. i ∷ c) (coordinates lengths)) (range_with_len (a + 1) k))
        ∙ (λ t. one_row ih a t ++ from_row ih (a + 1) k t)
        ∙ ap (λ (m : ℕ). range_with_len (a * product lengths) (product lengths) ++ range_with_len m (k * product lengths)) next
        ∙ range_joined (a * product lengths) (product lengths) (k * product lengths) (suc k * product lengths) (omega arith)

-- ---- a variable

-- the places of elements that follow one another
write_each : (value : List ℕ) (begin a n : ℕ) (file : List ℕ) → begin + (a + n) * length value ≤ length file
    → fold (λ f p. written f p value) file (map (λ k. begin + k * length value) (range_with_len a n))
    ≡ written file (begin + a * length value) (repeated value 0 (n * length value))
write_each value begin a zero file h = grind (arith, nat_tests, write_none)
write_each value begin a (suc n) file h =
    grind (arith, nat_tests, length-written_inside, repeated_long, write_each value begin (a + 1) n (written file (begin + a * length value) value), written, write_next, value_first)

pub var_filled : (header : Header) (v : Var) (value file : List ℕ) → is_record header v ≡ false → value ≡ fill_bytes v → length value ≡ size_of v.kind
    → v.begin + slab header v ≤ length file → fill_var header file v ≡ written file v.begin (repeated value 0 (slab header v))
var_filled header v value file fixed e long h =
    let first : v.begin + 0 * length value ≡ v.begin = omega arith in
    let bytes : product (inner_lengths header v) * length value ≡ slab header v = ap (λ (n : ℕ). product (inner_lengths header v) * n) long in
    ap (λ (b : List ℕ). fold (λ f index. written f (place header v index) b) file (coordinates (inner_lengths header v))) (sym e)
    ∙ sym (fold-map (λ f p. written f p value) (λ index. place header v index) file (coordinates (inner_lengths header v)))
    ∙ ap (λ ps. fold (λ f p. written f p value) file ps) all_places
    ∙ write_each value v.begin 0 (product (inner_lengths header v)) file (omega arith)
    ∙ (λ t. written file (first t) (repeated value 0 (bytes t)))
  where
    all_places : map (λ index. place header v index) (coordinates (inner_lengths header v))
        ≡ map (λ k. v.begin + k * length value) (range_with_len 0 (product (inner_lengths header v)))
    all_places = grind (arith, nat_tests, map_same, place header v, place_fixed header v, map_map, rows_in_order (inner_lengths header v))
