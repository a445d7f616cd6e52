-- Rows and runs of elements by their numbers, one dimension more.
use Rattle.vara_extents.proofs.Words.{◌≡◌, ℕ, ◌+◌, ◌-◌, ◌*◌, ◌/◌, ◌%◌, ◌^◌, ◌<◌, ◌≤◌, ◌⊎◌, min, inr, sym, ap, ◌∙◌, List, [], ◌∷◌, length, take, drop, get_or, true, false, arith, transport, slice_get, take_rest, mod_below, mul-le, mul-le-mul_left, index_fixed, index_record, Header, Var, Region, size_of, product, length_of, recsize, is_record, starts_with_zero, without_record, lengths_of, row, place, record_of, within_record, HasRecord, IsIndex, IsElement, index_at, product_pos, place_fixed, place_record, coordinates_of, index_of, row_of, AreRuns, nat_tests, common_steps}
use Rattle.vara_extents.proofs.RunLaws.{kept, merged, same_runs, sized, some_block}

-- the list after its first entry, as a pattern takes it
abbrev pub rest : List ℕ → List ℕ
rest xs = take (length xs - 1) (drop 1 xs)

pub rest_is : (x : ℕ) (xs : List ℕ) → rest (x ∷ xs) ≡ xs
rest_is x xs = take_rest (x ∷ xs) 1

pub split : (xs : List ℕ) → 1 ≤ length xs → xs ≡ get_or xs 0 0 ∷ rest xs
split [] h = absurd (omega arith)
split (x ∷ xs) h = ap (λ (ys : List ℕ). x ∷ ys) (sym (rest_is x xs))

-- ---- rows

-- what is left of a row after its first dimension, of that length, where a block of the others has `inner` elements
pub record RowStep (header : Header) (ids starts counts strides : List ℕ) (number before inner len s t : ℕ) (ids' starts' counts' strides' : List ℕ) : Type 0 where
  pub small : product counts' ≤ 2 ^ 20
  pub some : 1 ≤ inner
  pub valid : IsIndex (lengths_of header ids') (index_at starts' strides' (coordinates_of counts' (number % inner)))
  pub number_low : number % inner < product counts'
  pub whole : (before * len + (s + number / inner * t)) * product (lengths_of header ids') + row_of header ids' starts' counts' strides' (number % inner)
      ≡ before * product (lengths_of header ids) + row_of header ids starts counts strides number
  pub rows : before * len + (s + number / inner * t) ≤ before * product (lengths_of header ids) + row_of header ids starts counts strides number

pub row_step : (header : Header) (ids starts counts strides : List ℕ) (number before inner len : ℕ) → 1 ≤ length ids → 1 ≤ length starts → 1 ≤ length counts → 1 ≤ length strides
    → IsIndex (lengths_of header ids) (index_at starts strides (coordinates_of counts number)) → number < product counts → product counts ≤ 2 ^ 20
    → inner ≡ min (product (rest counts)) (2 ^ 64 - 1) → len ≡ length_of (slice_get header.dims (get_or ids 0 0))
    → RowStep header ids starts counts strides number before inner len (get_or starts 0 0) (get_or strides 0 0) (rest ids) (rest starts) (rest counts) (rest strides)
row_step header (id ∷ ids) (s ∷ starts) (n ∷ counts) (t ∷ strides) number before inner len a b c d valid below small is_inner is_len =
    let some = some_block n (product counts) number below in
    let low : product counts ≤ 2 ^ 20 = omega (arith, small, mul-le 1 (product counts) n (product counts) some.0 (omega arith)) in
    let is : inner ≡ product counts = grind (arith, nat_tests, rest_is n counts) in
    let pos = product_pos (lengths_of header ids) (index_at starts strides (coordinates_of counts (number % product counts))) valid.1 in
    let more = mul-le-mul_left (before * length_of (slice_get header.dims id) + (s + number / product counts * t)) pos in
    rw (is, is_len, rest_is n counts, rest_is id ids, rest_is s starts, rest_is t strides) (grind (arith, nat_tests, some.1, valid.1, more))
row_step header _ _ _ _ number before inner len a b c d valid below small is_inner is_len = absurd (omega arith)

pub no_counts : (header : Header) (ids starts counts strides : List ℕ) (number : ℕ) → 1 ≤ length ids → length counts < 1
    → IsIndex (lengths_of header ids) (index_at starts strides (coordinates_of counts number)) → ⊥
no_counts header (id ∷ ids) (s ∷ starts) [] (t ∷ strides) number a b valid = valid
no_counts header _ _ _ _ number a b valid = grind (arith, nat_tests)

-- ---- runs

-- the runs of every region with these counts and strides
abbrev pub HaveRuns : Header → List ℕ → List ℕ → List ℕ → ℕ → Type 0
HaveRuns header ids counts strides run =
    (starts : List ℕ) → length starts ≡ length ids → AreRuns (row_of header ids starts counts strides) 1 run (product counts)

pub inner_kept : (header : Header) (ids counts strides : List ℕ) (run : ℕ) → 1 ≤ length ids → 1 ≤ length counts → 1 ≤ length strides
    → HaveRuns header (rest ids) (rest counts) (rest strides) run → HaveRuns header ids counts strides run
inner_kept header (id ∷ ids) (n ∷ counts) (t ∷ strides) run a b c h (s ∷ starts) l =
    kept (row_of header ids starts counts strides) n s t (product (lengths_of header ids)) 1 run (product counts)
    ((rw (rest_is id ids, rest_is n counts, rest_is t strides) at h) starts (omega arith))
inner_kept header _ _ _ run a b c h _ l = absurd (omega arith)

pub inner_merged : (header : Header) (ids counts strides : List ℕ) (run : ℕ) → 1 ≤ length ids → 1 ≤ length counts → 1 ≤ length strides → 1 ≤ product counts
    → HaveRuns header (rest ids) (rest counts) (rest strides) run → (run ≡ product (rest counts)) × (product (rest counts) ≡ product (lengths_of header (rest ids)))
    → (get_or counts 0 0 ≡ 1) ⊎ (get_or strides 0 0 ≡ 1) → HaveRuns header ids counts strides (get_or counts 0 0 * run)
inner_merged header (id ∷ ids) (n ∷ counts) (t ∷ strides) run a b c some h whole one (s ∷ starts) l =
    let all : run ≡ product counts = grind (arith, nat_tests, whole.0, rest_is n counts) in
    let same : product counts * 1 ≡ product (lengths_of header ids) = grind (arith, nat_tests, whole.1, rest_is n counts, rest_is id ids) in
    rw all (merged (row_of header ids starts counts strides) n s t (product (lengths_of header ids)) 1 (product counts)
    (rw all at ((rw (rest_is id ids, rest_is n counts, rest_is t strides) at h) starts (omega arith))) same one (some_block n (product counts) 0 some).0)
inner_merged header _ _ _ run a b c some h whole one _ l = absurd (omega arith)

-- ---- a variable's places, by its rows

pub fixed_valid : (header : Header) (v : Var) (index : List ℕ) → is_record header v ≡ false → IsElement header v index → IsIndex (lengths_of header v.dims) index
fixed_valid header v index e h = grind (arith, nat_tests, index_fixed)

pub fixed_is : (header : Header) (v : Var) (g : Region) (number : ℕ) → is_record header v ≡ false
    → v.begin + row_of header v.dims g.start g.count g.stride number * size_of v.kind ≡ place header v (index_of g number)
fixed_is header v g number e = grind (arith, nat_tests, place_fixed, row_of, index_of)

-- the record of an element and its place in the record
pub record RecordRow (header : Header) (dims starts counts strides : List ℕ) (number : ℕ) : Type 0 where
  pub record_is : record_of (index_at starts strides (coordinates_of counts number)) ≡ get_or starts 0 0 + number / product (rest counts) * get_or strides 0 0
  pub index_is : within_record (index_at starts strides (coordinates_of counts number)) ≡ index_at (rest starts) (rest strides) (coordinates_of (rest counts) (number % product (rest counts)))
  pub lengths_are : without_record (lengths_of header dims) ≡ lengths_of header (rest dims)

pub record_row : (header : Header) (dims starts counts strides : List ℕ) (number : ℕ) → starts_with_zero (lengths_of header dims) ≡ true
    → 1 ≤ length dims → 1 ≤ length starts → 1 ≤ length counts → 1 ≤ length strides → RecordRow header dims starts counts strides number
record_row header (id ∷ dims) (s ∷ starts) (n ∷ counts) (t ∷ strides) number e a b c d =
    grind (arith, nat_tests, rest_is n counts, rest_is s starts, rest_is t strides, rest_is id dims)
record_row header _ _ _ _ number e a b c d = absurd (omega arith)

-- the place by the record and by the row
pub record_place_is : (header : Header) (v : Var) (g : Region) (number : ℕ) → is_record header v ≡ true → RecordRow header v.dims g.start g.count g.stride number
    → v.begin + (get_or g.start 0 0 + number / product (rest g.count) * get_or g.stride 0 0) * recsize header
    + row_of header (rest v.dims) (rest g.start) (rest g.count) (rest g.stride) (number % product (rest g.count)) * size_of v.kind ≡ place header v (index_of g number)
record_place_is header v g number e r = grind (arith, nat_tests, place_record)

-- an element of a record variable, where a block of a record has `inner` elements of the region, and a record so many bytes
pub record RecordStep (header : Header) (v : Var) (g : Region) (number inner wide : ℕ) (ids starts counts strides : List ℕ) : Type 0 where
  pub small : product (rest counts) ≤ 2 ^ 20
  pub some : 1 ≤ inner
  pub valid : IsIndex (lengths_of header (rest ids)) (index_at (rest starts) (rest strides) (coordinates_of (rest counts) (number % inner)))
  pub number_low : number % inner < product (rest counts)
  pub record_low : get_or starts 0 0 + number / inner * get_or strides 0 0 ≤ (get_or starts 0 0 + number / inner * get_or strides 0 0) * wide
  pub whole : v.begin + (get_or starts 0 0 + number / inner * get_or strides 0 0) * wide
      + row_of header (rest ids) (rest starts) (rest counts) (rest strides) (number % inner) * size_of v.kind ≡ place header v (index_of g number)

pub inner_small : (counts : List ℕ) (number : ℕ) → 1 ≤ length counts → number < product counts → product counts ≤ 2 ^ 20 → (1 ≤ product (rest counts)) × (product (rest counts) ≤ 2 ^ 20)
inner_small (n ∷ counts) number a b c =
    let some = some_block n (product counts) number b in
    grind (arith, nat_tests, mul-le 1 (product counts) n (product counts) some.0, rest_is n counts, some.1)
inner_small _ number a b c = absurd (omega arith)

pub record_step : (header : Header) (v : Var) (g : Region) (number inner wide : ℕ) (ids starts counts strides : List ℕ)
    → wide ≡ recsize header → ids ≡ v.dims → starts ≡ g.start → counts ≡ g.count → strides ≡ g.stride
    → is_record header v ≡ true → 1 ≤ wide → 1 ≤ length ids → 1 ≤ length starts → 1 ≤ length counts → 1 ≤ length strides
    → IsElement header v (index_of g number) → number < product g.count → product g.count ≤ 2 ^ 20 → inner ≡ min (product (rest counts)) (2 ^ 64 - 1)
    → RecordStep header v g number inner wide ids starts counts strides
record_step header v g number inner wide ids starts counts strides w p q r t e some a b c d valid below small is =
    grind (
      arith,
      nat_tests,
      record_row header v.dims g.start g.count g.stride number e,
      inner_small g.count number,
      index_record header v (index_of g number) e valid,
      mod_below number (product (rest g.count)),
      record_place_is header v g number e,
      mul-le-mul_left (get_or g.start 0 0 + number / inner * get_or g.stride 0 0) some,
      transport,
    )

record_entries : (starts strides counts : List ℕ) (number : ℕ) → HasRecord (index_at starts strides (coordinates_of counts number)) → (1 ≤ length starts) × (1 ≤ length counts) × (1 ≤ length strides)
record_entries (s ∷ starts) (t ∷ strides) (n ∷ counts) number h = (omega arith, omega arith, omega arith)
record_entries _ _ _ number h = absurd h

-- the region of an element in a record has an entry for the record dimension
pub has_record_entry : (header : Header) (v : Var) (g : Region) (number : ℕ) → is_record header v ≡ true → IsElement header v (index_of g number)
    → (1 ≤ length g.start) × (1 ≤ length g.count) × (1 ≤ length g.stride)
has_record_entry header v g number e valid = record_entries g.start g.stride g.count number (index_record header v (index_of g number) e valid).0

-- and the variable has that dimension
pub has_record_dimension : (header : Header) (v : Var) → is_record header v ≡ true → 1 ≤ length v.dims
has_record_dimension header v e = grind (arith, common_steps)

-- ---- runs of a variable

-- where the elements of the first record lie
abbrev inner_at : Header → Var → Region → ℕ → ℕ
inner_at header v g k = v.begin + row_of header (rest v.dims) (rest g.start) (rest g.count) (rest g.stride) k * size_of v.kind

pub same_rests : (xs ys : List ℕ) → length xs ≡ length ys → length (rest xs) ≡ length (rest ys)
same_rests xs ys h = grind (arith, common_steps)

module _ (header : Header) (v : Var) (g : Region) (run : ℕ) (e : is_record header v ≡ true) (a : 1 ≤ length v.dims) (l : length g.start ≡ length v.dims)
    (c : 1 ≤ length g.count) (d : 1 ≤ length g.stride) (h : HaveRuns header (rest v.dims) (rest g.count) (rest g.stride) run) where
  inner_bytes : AreRuns (λ k. inner_at header v g k) (size_of v.kind) run (product (rest g.count))
  inner_bytes =
      sized (row_of header (rest v.dims) (rest g.start) (rest g.count) (rest g.stride)) v.begin (size_of v.kind) run (product (rest g.count)) (h (rest g.start) (same_rests g.start v.dims l))

  -- the inner runs of a record variable, by its records
  by_records : (n : ℕ)
      → AreRuns (λ k. (get_or g.start 0 0 + k / product (rest g.count) * get_or g.stride 0 0) * recsize header + inner_at header v g (k % product (rest g.count))) (size_of v.kind) n
      (get_or g.count 0 0 * product (rest g.count))
      → AreRuns (λ k. place header v (index_of g k)) (size_of v.kind) n (product g.count)
  by_records n h = grind (arith, nat_tests, split, same_runs, record_place_is, record_row)

  pub record_kept : AreRuns (λ k. place header v (index_of g k)) (size_of v.kind) run (product g.count)
  record_kept =
      by_records run
      (kept (λ k. inner_at header v g k) (get_or g.count 0 0) (get_or g.start 0 0) (get_or g.stride 0 0) (recsize header) (size_of v.kind) run (product (rest g.count)) inner_bytes)

  pub record_merged : 1 ≤ product g.count → run ≡ product (rest g.count) → recsize header ≡ run * size_of v.kind → get_or g.stride 0 0 ≡ 1
      → AreRuns (λ k. place header v (index_of g k)) (size_of v.kind) (get_or g.count 0 0 * run) (product g.count)
  record_merged some all touching one =
      let block = some_block (get_or g.count 0 0) (product (rest g.count)) 0 (omega (arith, some, ap product (split g.count c))) in
      by_records (get_or g.count 0 0 * run)
      (rw all (merged (λ k. inner_at header v g k) (get_or g.count 0 0) (get_or g.start 0 0) (get_or g.stride 0 0) (recsize header) (size_of v.kind) (product (rest g.count)) (rw all at inner_bytes)
      (ap (λ (r : ℕ). r * size_of v.kind) (sym all) ∙ sym touching) (inr one) block.0))
