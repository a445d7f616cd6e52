-- A filled file reads its fill values: elements that were written, no two of which share a byte.
use Rattle.whole_run_laws.proofs.Words.{AllByRecursion, said_of, same_index, read_same, ◌≡◌, ℕ, zero, suc, ◌+◌, ◌<◌, ◌≤◌, refl, sym, ap, inl, inr, ◌⊎◌, List, [], ◌∷◌, length, map, get_or, true, false, not, Some, arith, fold-append, fold-map, flat_map, fold, slice_get, flat_in, in_flat, at_in, in_at, in_filter, filter_in, each_in, in_map, map_in, Header, Var, Script, Mark, size_of, at, longer, read, end_for, fill_bytes, fill_var, filled, canon, header_len, is_sound, fixed_variables, inner_lengths, is_record, In, IsElement, IsIndex, place, row, fills, cells, coordinates, Cell, said_at, said_by, write_cells, serial, setting_of, start, coordinates_all, elements_apart, elements_past_header, coordinates_at, cells_said, canon_len, completed_puts, IsBesideCount, is_held, found_long, resized, IsOrApart, nat_tests}
use Rattle.whole_run_laws.proofs.KeptLaws.{end_kept}

-- ---- cells of which each is another one's or apart from it

all_of : (e : Cell) (cells : List Cell) → ((d : Cell) → In cells d → IsOrApart e d) → AllByRecursion (IsOrApart e) cells
all_of e [] f = tt
all_of e (d ∷ cells) f = (f d (inl refl), all_of e cells (λ z h. f z (inr h)))

pub says_that : (e : Cell) (i : ℕ) → i < length e.1 → (cells : List Cell) → In cells e → ((d : Cell) → In cells d → IsOrApart e d)
    → said_at (said_by cells) (e.0 + i) ≡ Some (get_or e.1 i 0)
says_that e i inside cells h f = grind (arith, nat_tests, said_of e (e.0 + i), all_of e cells f)

-- ---- reading

pub read_all : (file value : List ℕ) (p n : ℕ) → n ≡ length value → ((i : ℕ) → i < length value → at file (p + i) ≡ get_or value i 0) → read file p n ≡ value
read_all file [] p zero e f = refl
read_all file (v ∷ value) p (suc n) e f = grind (arith, nat_tests, f 0, read_all file value (p + 1) n (omega arith) (λ i l. grind (arith, nat_tests, f (suc i))))
read_all file _ p _ e f = absurd (omega arith)

-- ---- elements of a header

abbrev pub cell_of : Header → Var → List ℕ → Cell
cell_of header v index = (place header v index, fill_bytes v)

pub fill_long : (v : Var) → length (fill_bytes v) ≡ size_of v.kind
fill_long v = found_long v.kind v.attrs

pub cells_apart : (header : Header) (k m : ℕ) (v w : Var) (i j : List ℕ) → is_sound header ≡ true → slice_get header.vars k ≡ Some v → slice_get header.vars m ≡ Some w
    → IsElement header v i → IsElement header w j → ((m ≡ k) × (j ≡ i)) ⊎ (((k ≡ m) × (i ≡ j)) → ⊥) → IsOrApart (cell_of header v i) (cell_of header w j)
cells_apart header k m v w i j sound e f p q xs = grind (arith, nat_tests, fill_long, elements_apart, resized)

fixed_element : (header : Header) (v : Var) (index : List ℕ) → is_record header v ≡ false → IsIndex (inner_lengths header v) index → IsElement header v index
fixed_element header v index e h = grind (arith, nat_tests)

pub record_element : (header : Header) (v : Var) (number : ℕ) (index : List ℕ) → is_record header v ≡ true → IsIndex (inner_lengths header v) index → IsElement header v (number ∷ index)
record_element header v number index e h = grind (arith, nat_tests)

pub index_in : (lengths index : List ℕ) → IsIndex lengths index → In (coordinates lengths) index
index_in lengths index h = at_in (coordinates lengths) (row lengths index) index (coordinates_at lengths index h)

pub in_index : (lengths index : List ℕ) → In (coordinates lengths) index → IsIndex lengths index
in_index lengths index h = each_in (IsIndex lengths) (coordinates lengths) index (coordinates_all lengths) h

-- two elements are one, or not
pub same_or_not : (k m : ℕ) (i j : List ℕ) → ((m ≡ k) × (j ≡ i)) ⊎ (((k ≡ m) × (i ≡ j)) → ⊥)
same_or_not k m i j = grind (arith, nat_tests, same_index j i)

-- ---- a filled file

abbrev cells_of_var : Header → Var → List Cell
cells_of_var header v = map (cell_of header v) (coordinates (inner_lengths header v))

abbrev cells_of_vars : Header → List Var → List Cell
cells_of_vars header vars = flat_map (cells_of_var header) vars

vars_cells : (header : Header) (vars : List Var) (file : List ℕ) → fold (fill_var header) file vars ≡ write_cells file (cells_of_vars header vars)
vars_cells header [] file = refl
vars_cells header (v ∷ vars) file = grind (arith, nat_tests, vars_cells header vars (fill_var header file v), fold-map, fold-append)

filled_apart : (header : Header) (k : ℕ) (v : Var) (index : List ℕ) → is_sound header ≡ true → slice_get header.vars k ≡ Some v → is_record header v ≡ false
    → IsIndex (inner_lengths header v) index → (d : Cell) → In (cells_of_vars header (fixed_variables header header.vars)) d → IsOrApart (cell_of header v index) d
filled_apart header k v index sound e fixed h d m =
    let w = flat_in (cells_of_var header) (fixed_variables header header.vars) d m in
    let kept = filter_in (λ z. not (is_record header z)) header.vars w.0 w.1 in
    let number = in_at header.vars w.0 kept.0 in
    let j = map_in (cell_of header w.0) (coordinates (inner_lengths header w.0)) d w.2 in
    let other = in_index (inner_lengths header w.0) j.0 j.1 in
    let so : is_record header w.0 ≡ false = grind (arith, nat_tests, kept.1) in
    grind (arith, nat_tests, cells_apart header k number.0 v w.0 index j.0 sound e number.1 (fixed_element header v index fixed h), fixed_element header v index fixed h, fixed_element header w.0 j.0 so other, same_or_not k number.0 index j.0, j.2, cell_of)

pub filled_reads : (header : Header) (file : List ℕ) (k : ℕ) (v : Var) (index : List ℕ) → is_sound header ≡ true → slice_get header.vars k ≡ Some v
    → is_record header v ≡ false → IsIndex (inner_lengths header v) index → read (filled header file) (place header v index) (size_of v.kind) ≡ fill_bytes v
filled_reads header file k v index sound e fixed h =
    let all = cells_of_vars header (fixed_variables header header.vars) in
    let there : In (fixed_variables header header.vars) v =
    in_filter (λ z. not (is_record header z)) header.vars v (at_in header.vars k v e) (ap not fixed) in
    let mine = in_flat (cells_of_var header) (fixed_variables header header.vars) v (cell_of header v index) there
    (in_map (cell_of header v) (coordinates (inner_lengths header v)) index (index_in (inner_lengths header v) index h)) in
    read_all (filled header file) (fill_bytes v) (place header v index) (size_of v.kind) (sym (fill_long v)) (λ i l.
    grind (arith, nat_tests, vars_cells header (fixed_variables header header.vars) file, cells_said all file, says_that (cell_of header v index) i l all mine (filled_apart header k v index sound e fixed h)))

pub past_count : (header : Header) (x : ℕ) → header_len header ≤ x → IsBesideCount header x
past_count header x h = let whole = canon_len header in inr (omega arith)

pub filled_stays : (script : Script) (header : Header) (file : List ℕ) (order : List Mark) (k : ℕ) (v : Var) (index : List ℕ)
    → script.fresh ≡ true → script.filled ≡ true → is_sound header ≡ true → slice_get header.vars k ≡ Some v
    → is_record header v ≡ false → IsIndex (inner_lengths header v) index
    → ((i : ℕ) → i < size_of v.kind → is_held header (completed_puts script header (start script header file) order) (place header v index + i) ≡ false)
    → read (serial script header file order).bytes (place header v index) (size_of v.kind) ≡ fill_bytes v
filled_stays script header file order k v index fresh fills sound e fixed h untouched =
    let first = start script header file in
    let past = elements_past_header header k v index sound e (fixed_element header v index fixed h) in
    let same = read_same (serial script header file order).bytes first (place header v index) (place header v index) (size_of v.kind)
    (λ i l. end_kept script header first order (place header v index + i) (past_count header (place header v index + i) (omega arith)) (untouched i l)) in
    grind (arith, nat_tests, same, filled_reads header (longer (canon header) (end_for (setting_of script header) 0)) k v index sound e fixed h)
