-- The extents that are left, one run after another.
use Rattle.vara_extents.proofs.Words.{◌≡◌, ℕ, ◌+◌, ◌*◌, ◌/◌, ◌^◌, ◌<◌, ◌≤◌, refl, ap, List, [], length, true, ◌-◌, ◌%◌, inl, inr, subst, arith, drop_all, div-add-mod', mul-le, mul-div_cancel, Header, Var, Region, size_of, product, recsize, is_record, place, Run, Runs, element_extents, extents_of, joined, joined_to, extents_from, run_place, AreReady, IsRunOf, accepted, coordinates_of, index_of, weighted, AreRuns, HaveRows, nat_tests}
use Rattle.vara_extents.proofs.RowLaws.{rows_of}
use Rattle.vara_extents.proofs.NumberLaws.{length-element_extents, run_is}
use Rattle.vara_extents.proofs.PlaceLaws.{IsPlaced, accepted_place, accepted_var, wide_records, small_of}
use Rattle.vara_extents.proofs.RunLaws.{some_block}

-- ---- one run

pub record IsInside (header : Header) (v : Var) (g : Region) (run k : ℕ) : Type 0 where
  pub number : k * run < product g.count
  pub small : product g.count ≤ 2 ^ 20
  pub placed : IsPlaced header v g (k * run)
  pub low : place header v (index_of g (k * run)) + run * size_of v.kind ≤ 2 ^ 62
  pub wide : is_record header v ≡ true → 1 ≤ recsize header

pub inside : (r : Runs) (k : ℕ) → AreReady r → k < r.count → IsInside r.header.now r.var.now r.region.now r.elements k
inside r k h l =
    let rows = mul-le (k + 1) r.elements r.count r.elements (omega arith) (omega arith) in
    let last : k * r.elements + (r.elements - 1) < product r.region.now.count = omega (arith, rows, h.total, h.follow.some) in
    let place_of : (n : ℕ) → n < product r.region.now.count → IsPlaced r.header.now r.var.now r.region.now n =
    λ n. accepted_place r.header.now h.accepted.0 r.var.now r.region.now n h.sound h.accepted.1 h.accepted.2 in
    let size : r.elements * size_of r.var.now.kind ≡ (r.elements - 1 + 1) * size_of r.var.now.kind = ap (λ (x : ℕ). x * size_of r.var.now.kind) (omega (arith, h.follow.some)) in
    let first = place_of (k * r.elements) (omega (arith, last)) in
    record {
      number = omega (arith, last);
      small = (small_of r.header.now h.accepted.0 r.var.now r.region.now h.accepted.1 h.accepted.2).elements;
      placed = first;
      low = omega (arith, size, h.follow.follow k (r.elements - 1) (omega (arith, h.follow.some)) last, (place_of (k * r.elements + (r.elements - 1)) last).low);
      wide = λ e. wide_records r.header.now h.accepted.0 r.var.now (index_of r.region.now (k * r.elements)) h.accepted.1 e first.element;
    }

-- ---- rows

-- those from a run on, in its row
pub in_row : (r : Runs) (number at : ℕ) → AreReady r → (number < r.count → at ≡ run_place r number)
    → (i : ℕ) → i ≤ r.row.runs - 1 - number % r.row.runs → number + i < r.count → at + i * r.row.step ≡ run_place r (number + i)
in_row r number at h is i l below =
    let n = r.row.runs in
    let whole = div-add-mod' number n in
    let there : number / n * n + (number % n + i) ≡ number + i = omega (arith, whole) in
    grind (arith, nat_tests, h.rows.follow, run_place)

pub run_here : (r : Runs) (run : Run) → IsRunOf r run → run.number < r.count → run.at ≡ run_place r run.number
run_here r run placed l = grind (arith, nat_tests)

pub next_in_row : (r : Runs) (run : Run) → IsRunOf r run → run.number < r.count → (run.left ≡ 0 → ⊥)
    → IsRunOf r (record { number = run.number + 1; at = run.at + r.row.step; left = run.left - 1 })
next_in_row r run placed l some = record { within = omega arith; at = λ i m below. grind (arith, nat_tests, placed.at (i + 1), run_place) }

-- a row's step is from its first run to its second one
pub record GoUp (r : Runs) (row : ℕ) : Type 0 where
  pub up : run_place r 0 ≤ run_place r 1
  pub rows : AreRuns (run_place r) (run_place r 1 - run_place r 0) row r.count

pub steps_up : (r : Runs) (row : ℕ) → AreReady r → 2 ≤ r.count → 2 ≤ row
    → ((weights : List ℕ) → length weights ≡ length r.region.now.count → HaveRows (λ k. weighted weights (coordinates_of r.region.now.count k)) r.elements row (product r.region.now.count))
    → GoUp r row
steps_up r row h some long rows =
    let shape = accepted r.header.now r.var.now r.region.now h.accepted.2.0 h.accepted.2.1 (accepted_var r.header.now h.accepted.0 r.var.now r.region.now h.accepted.1 h.accepted.2) in
    by_rows (rows_of r.header.now r.var.now r.region.now h.accepted.2.0 h.accepted.2.1 shape r.elements row rows)
  where
    stepped : (step : ℕ) → AreRuns (run_place r) step row r.count → GoUp r row
    stepped step a =
        let most : row ≤ r.count = omega (arith, a.parts.1, mul-le 1 row a.parts.0 row (some_block a.parts.0 row 0 (omega (arith, some, a.parts.1))).0 (omega arith)) in
        let own : run_place r 1 ≡ run_place r 0 + step = grind (arith, nat_tests, a.follow 0 1) in
        record { up = omega (arith, own); rows = subst (λ (n : ℕ). AreRuns (run_place r) n row r.count) (omega (arith, own)) a }

    by_rows : HaveRows (λ k. place r.header.now r.var.now (index_of r.region.now k)) r.elements row (product r.region.now.count) → GoUp r row
    by_rows (inl e) = absurd (omega (arith, e, long))
    by_rows (inr a) =
        let same : a.0 ≡ r.count = grind (arith, nat_tests, mul-div_cancel a.0 h.follow.some, mul-div_cancel r.count h.follow.some, a.1, h.total) in
        stepped a.2 (subst (λ (m : ℕ). AreRuns (run_place r) a.2 row m) same a.3)

-- ---- a run on the way

-- the run and the extents after it, and that it ends within the file
pub placed_run : (r : Runs) (run next : Run) (len : ℕ) → AreReady r → IsRunOf r run → run.number < r.count → len ≡ r.elements * size_of r.var.now.kind → next.number ≡ run.number + 1
    → (extents_from r run.number ≡ joined_to (record { at = run.at; len = len }) (extents_from r next.number)) × (run.at + len ≤ 2 ^ 62)
placed_run r run next len h placed l long after =
    grind (arith, nat_tests, run_here r run placed l, inside r run.number h l, run_is, extents_from, joined_to, joined, element_extents)

-- nothing is left after the last run
pub none_left : (r : Runs) (k : ℕ) → AreReady r → r.count ≤ k → extents_from r k ≡ []
none_left r k h l =
    grind (arith, nat_tests, length-element_extents r.header.now r.var.now r.region.now, mul-le r.count r.elements k r.elements l (omega arith), drop_all)

-- ---- a walk that begins

pub all_left : (r : Runs) (k : ℕ) → k ≡ 0 → extents_from r k ≡ extents_of r.header.now r.var.now r.region.now
all_left r k h = grind (arith, nat_tests)

pub whole_runs : (f : ℕ → ℕ) (size run total : ℕ) → AreRuns f size run total → total ≡ total / run * run
whole_runs f size run total h = grind (arith, nat_tests, mul-div_cancel)

-- no element is in runs of one
pub no_runs : (f : ℕ → ℕ) (size : ℕ) → AreRuns f size 1 0
no_runs f size = record { some = omega arith; parts = (0, refl); follow = λ q i l below. absurd (omega arith) }
