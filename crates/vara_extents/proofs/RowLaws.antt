-- Rows of runs: in one dimension the places of runs go up by equal steps.
use Rattle.vara_extents.proofs.Words.{Direction, ◌≡◌, ℕ, suc, ◌+◌, ◌*◌, ◌/◌, ◌%◌, ◌≤◌, inl, inr, holds_or_not, refl, sym, ap, ◌∙◌, List, [], ◌∷◌, length, get_or, true, false, arith, slice_get, length-map, mul-div_cancel, mul-mod_left, Header, Var, Region, size_of, product, length_of, recsize, is_record, lengths_of, place, index_at, coordinates_of, index_of, weighted, AreRuns, HaveRows, nat_tests}
use Rattle.serial_spec.specs.Place as spec
use Rattle.serial_spec.proofs.AcceptLaws as accept
use Rattle.vara_extents.proofs.RowSteps.{rest, rest_is, fixed_is, record_place_is, record_row, same_rests, split}
use Rattle.vara_extents.proofs.RunLaws.{kept, same_runs, in_block, some_block}

-- ---- the dimensions of a row

-- a run in a row of its own
pub single : (f : ℕ → ℕ) (step total : ℕ) → AreRuns f step 1 total
single f step total = record { some = omega arith; parts = (total, omega arith); follow = λ q i l below. grind (arith, nat_tests) }

-- the same of a list of counts
pub rows_here : (counts weights : List ℕ) (run : ℕ) → 1 ≤ length counts → 1 ≤ product counts → 1 ≤ run → product (rest counts) ≡ run → length weights ≡ length counts
    → HaveRows (λ k. weighted weights (coordinates_of counts k)) run (get_or counts 0 0) (product counts)
rows_here (n ∷ counts) (w ∷ weights) run a some one same l =
    let total : product counts ≡ run = sym (ap product (rest_is n counts)) ∙ same in
    let at : (q : ℕ) → weighted (w ∷ weights) (coordinates_of (n ∷ counts) (q * run)) ≡ q * w + weighted weights (coordinates_of counts 0) =
    λ q. grind (arith, nat_tests, mul-div_cancel q one, mul-mod_left q run) in
    inr (
      n,
      ap (λ (m : ℕ). n * m) total,
      w,
      record {
        some = (some_block n (product counts) 0 some).0;
        parts = (1, omega arith);
        follow = λ q i l below. omega (arith, at (q * n + i), at (q * n));
      },
    )
rows_here _ _ run a some one same l = absurd (omega arith)

-- an outer dimension keeps the rows of the inner ones
pub rows_inside : (counts weights : List ℕ) (run row : ℕ) → 1 ≤ length counts → 1 ≤ product (rest counts) → 1 ≤ run
    → ((ws : List ℕ) → length ws ≡ length (rest counts) → HaveRows (λ k. weighted ws (coordinates_of (rest counts) k)) run row (product (rest counts))) → length weights ≡ length counts
    → HaveRows (λ k. weighted weights (coordinates_of counts k)) run row (product counts)
rows_inside (n ∷ counts) (w ∷ weights) run row a some one h l =
    let below : 1 ≤ product counts = omega (arith, some, ap product (rest_is n counts)) in
    let f : ℕ → ℕ = λ k. weighted weights (coordinates_of counts k) in
    elim ((rw (rest_is n counts) at h) weights (omega arith)) [
      | inl e ↦ inl e
      | inr k ↦
          inr (
            n * k.0,
            omega (arith, ap (λ (x : ℕ). n * x) k.1),
            k.2,
            same_runs _ (λ q. q * run / product counts * w + f (q * run % product counts)) k.2 row (n * k.0)
                (λ q. grind (arith, nat_tests, in_block run k.0 (product counts) q 0 one k.1 below)) (kept (λ q. f (q * run)) n 0 1 w k.2 row k.0 k.3),
          )
    ]
rows_inside _ _ run row a some one h l = absurd (omega arith)

-- ---- places by their weights

-- the same from a base on
pub rows_from : (f g : ℕ → ℕ) (base run row total : ℕ) → ((k : ℕ) → base + f k ≡ g k) → HaveRows f run row total → HaveRows g run row total
rows_from f g base run row total same xs = grind (arith, nat_tests)

abbrev weights_of : ℕ → List ℕ → List ℕ → List ℕ
weights_of size (n ∷ lengths) (t ∷ strides) = t * product lengths * size ∷ weights_of size lengths strides
weights_of size _ _ = []

length-weights_of : (size : ℕ) (lengths strides : List ℕ) → length strides ≡ length lengths → length (weights_of size lengths strides) ≡ length strides
length-weights_of size (n ∷ lengths) (t ∷ strides) h = ap suc (length-weights_of size lengths strides (omega arith))
length-weights_of size _ _ h = grind (arith, nat_tests)

row_weighted : (size : ℕ) (lengths starts strides cs : List ℕ) → length starts ≡ length lengths → length strides ≡ length lengths → length cs ≡ length lengths
    → spec.row lengths (index_at starts strides cs) * size ≡ spec.row lengths starts * size + weighted (weights_of size lengths strides) cs
row_weighted size (n ∷ lengths) (s ∷ starts) (t ∷ strides) (x ∷ cs) a b c =
    grind (arith, nat_tests, row_weighted size lengths starts strides cs (omega arith) (omega arith) (omega arith))
row_weighted size _ _ _ _ a b c = grind (arith, nat_tests)

length-coordinates_of : (counts : List ℕ) (k : ℕ) → length (coordinates_of counts k) ≡ length counts
length-coordinates_of [] k = refl
length-coordinates_of (n ∷ counts) k = ap suc (length-coordinates_of counts (k % product counts))

length-lengths_of : (header : Header) (ids : List ℕ) → length (lengths_of header ids) ≡ length ids
length-lengths_of header ids = length-map ids (λ id. length_of (slice_get header.dims id))

weighted_first : (counts weights : List ℕ) (weight k : ℕ) → 1 ≤ length counts
    → weighted (weight ∷ weights) (coordinates_of counts k) ≡ k / product (rest counts) * weight + weighted weights (coordinates_of (rest counts) (k % product (rest counts)))
weighted_first [] weights weight k h = absurd (omega arith)
weighted_first (n ∷ counts) weights weight k h = grind (arith, nat_tests, rest_is n counts)

-- places are sums of coordinates by weights, from a base on
record AreSums (header : Header) (v : Var) (g : Region) (weights : List ℕ) (base : ℕ) : Type 0 where
  long : length weights ≡ length g.count
  sum : (k : ℕ) → base + weighted weights (coordinates_of g.count k) ≡ place header v (index_of g k)

module _ (header : Header) (v : Var) (g : Region) (known : ℕ) (way : Direction) (h : accept.IsAccepted header v g known way) where
  fixed_sums : is_record header v ≡ false
      → AreSums header v g (weights_of (size_of v.kind) (lengths_of header v.dims) g.stride) (v.begin + spec.row (lengths_of header v.dims) g.start * size_of v.kind)
  fixed_sums e = grind (arith, nat_tests, length-lengths_of, length-weights_of, row_weighted, length-coordinates_of, fixed_is)

  record_sums : is_record header v ≡ true
      → AreSums header v g (get_or g.stride 0 0 * recsize header ∷ weights_of (size_of v.kind) (lengths_of header (rest v.dims)) (rest g.stride))
      (v.begin + get_or g.start 0 0 * recsize header + spec.row (lengths_of header (rest v.dims)) (rest g.start) * size_of v.kind)
  record_sums e =
      let dims = length-lengths_of header (rest v.dims) in
      grind (arith, nat_tests, dims, length-weights_of, weighted_first, row_weighted, length-coordinates_of, record_place_is, record_row, same_rests g.start v.dims, same_rests g.count v.dims, same_rests g.stride v.dims, split g.count)

  -- the rows of a region are those of every sum of its coordinates
  pub rows_of : (run row : ℕ) → ((weights : List ℕ) → length weights ≡ length g.count → HaveRows (λ k. weighted weights (coordinates_of g.count k)) run row (product g.count))
      → HaveRows (λ k. place header v (index_of g k)) run row (product g.count)
  rows_of run row rows = elim (holds_or_not (is_record header v)) [
    | inl e ↦ of_sums _ _ (record_sums e)
    | inr e ↦ of_sums _ _ (fixed_sums e)
  ]
    where
      of_sums : (weights : List ℕ) (base : ℕ) → AreSums header v g weights base → HaveRows (λ k. place header v (index_of g k)) run row (product g.count)
      of_sums weights base s = rows_from (λ k. weighted weights (coordinates_of g.count k)) (λ k. place header v (index_of g k)) base run row (product g.count) s.sum (rows weights s.long)
