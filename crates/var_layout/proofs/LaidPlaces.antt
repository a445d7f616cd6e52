-- Each variable of a laid out header lies where it is placed, before the next of its kind, and keeps its bound.
use Rattle.var_layout.proofs.Words.{◌≡◌, ℕ, zero, suc, ◌+◌, ◌-◌, ◌^◌, ◌<◌, ◌≤◌, List, [], ◌∷◌, inl, inr, holds_or_not, no_both, length, take, get_or, true, false, Some, None, refl, ap, ◌∙◌, arith, sum_by, slice_get, nat_tests, take_all, get_or_default, sum_by-cons, slice_get_within, get_or_from_slice_get, and_from, Header, Var, Align, vsize, is_record, record_variables, record_share, round_up, placed, begins, begin_of, measure, past_bound, keeps_bound, fixed_end, first_record, HasPlace}
use Rattle.var_layout.proofs.Soundness.{shares_are}
use Rattle.var_layout.proofs.Searches.{Lies}
use Rattle.var_layout.proofs.CreatedFiles.{in_place, records_before, fixed_end_more, fixed_end_same, records_more, records_same, begin_fixed, begin_record, fixed_near, record_near}
use Rattle.var_layout.proofs.LaidKept.{placed_sum_front}

-- ---- each variable lies where it is placed

placed_get : (header : Header) (align : Align) (first n : ℕ) (vs : List Var) (k : ℕ) (w : Var) → slice_get (placed header align first n vs) k ≡ Some w
    → (v : Var) × (slice_get vs k ≡ Some v) × (in_place header align first (n + k) v ≡ w)
placed_get header align first n [] k w h = cc
placed_get header align first n (v ∷ vs) zero w h =
    (v, refl, ap (λ (m : ℕ). in_place header align first m v) (let e : n + 0 ≡ n = omega arith in e) ∙ (let e : in_place header align first n v ≡ w = cc in e))
placed_get header align first n (v ∷ vs) (suc k) w h = grind (arith, nat_tests, placed_get header align first (suc n) vs k w h)

pub lies_at : (header : Header) (align : Align) (first k : ℕ) (w : Var) → slice_get (placed header align first 0 header.vars) k ≡ Some w
    → (v : Var) × Lies header k v × (in_place header align first k v ≡ w)
lies_at header align first k w h = grind (arith, nat_tests, placed_get, slice_get_within, get_or_from_slice_get)

up : (unit n : ℕ) → 0 < unit → n ≤ round_up unit n
up unit n h = omega arith

lies_get : (header : Header) (k : ℕ) (d : Var) → k < length header.vars → Lies header k (get_or header.vars k d)
lies_get header k d h = record { within = h; there = get_or_default header.vars k d (get_or header.vars k d) h }

-- what goes up at each step goes up
grows : (f : ℕ → ℕ) (n : ℕ) → ((k : ℕ) → k < n → f k ≤ f (k + 1)) → (k m : ℕ) → k ≤ m → m ≤ n → f k ≤ f m
grows f n step k zero l h = let e : f k ≡ f 0 = ap f (omega arith) in omega arith
grows f n step k (suc m) l h = grind (arith, nat_tests, grows f n step k m)

pub fixed_grows : (header : Header) (align : Align) (first k m : ℕ) (d : Var) → 0 < align.var → k ≤ m → m ≤ length header.vars → fixed_end header align first k ≤ fixed_end header align first m
fixed_grows header align first k m d pos l h = grows (λ n. fixed_end header align first n) (length header.vars) step k m l h
  where
    step : (n : ℕ) → n < length header.vars → fixed_end header align first n ≤ fixed_end header align first (n + 1)
    step n g =
        grind (arith, nat_tests, holds_or_not (is_record header (get_or header.vars n d)), fixed_end_same header align first n, fixed_end_more header align first n, lies_get header n d g, up align.var (fixed_end header align first n) pos)

pub records_grow : (header : Header) (k m : ℕ) (d : Var) → k ≤ m → m ≤ length header.vars → records_before header k ≤ records_before header m
records_grow header k m d l h = grows (λ n. records_before header n) (length header.vars) step k m l h
  where
    step : (n : ℕ) → n < length header.vars → records_before header n ≤ records_before header (n + 1)
    step n g =
        grind (arith, nat_tests, holds_or_not (is_record header (get_or header.vars n d)), records_more header n, lies_get header n d g, records_same header n)

pub all_records : (header : Header) → records_before header (length header.vars) ≡ sum_by (λ v. vsize header v) (record_variables header header.vars)
all_records header = ap (λ vs. sum_by (λ v. vsize header v) (record_variables header vs)) (take_all (length header.vars) header.vars (omega arith))

-- a fixed variable ends where the next one may begin, a record variable where the next record variable begins
pub record FixedAt (header : Header) (align : Align) (first k begin : ℕ) (v : Var) : Type 0 where
  pub low : fixed_end header align first k ≤ begin
  pub high : begin + vsize header v ≡ fixed_end header align first (k + 1)

pub fixed_at : (header : Header) (align : Align) (first k : ℕ) (v : Var) → 0 < align.var → Lies header k v → is_record header v ≡ false → FixedAt header align first k (begin_of header align first k v) v
fixed_at header align first k v pos lies e = grind (arith, nat_tests, begin_fixed, fixed_end_more, up)

pub record RecordAt (header : Header) (align : Align) (first k begin : ℕ) (v : Var) : Type 0 where
  pub low : begin ≡ first_record header align first + records_before header k
  pub high : begin + vsize header v ≡ first_record header align first + records_before header (k + 1)

pub record_at : (header : Header) (align : Align) (first k : ℕ) (v : Var) → Lies header k v → is_record header v ≡ true → RecordAt header align first k (begin_of header align first k v) v
record_at header align first k v lies e = grind (arith, nat_tests, begin_record, records_more)

pub first_low : (header : Header) (align : Align) (first : ℕ) → 0 < align.var → fixed_end header align first (length header.vars) ≤ first_record header align first
first_low header align first pos = grind (arith, nat_tests, up, take_all)

pub header_low : (header : Header) (align : Align) (first k : ℕ) (d : Var) → 0 < align.header → 0 < align.var → k ≤ length header.vars → first ≤ fixed_end header align first k
header_low header align first k d pos pos' h = grind (arith, nat_tests, up align.header first pos, fixed_grows header align first 0 k d pos' (omega arith) h)

-- ---- each variable keeps its bound

pub past_none : (header : Header) (vs : List Var) (before n : ℕ)
    → ((k : ℕ) (v : Var) → slice_get vs k ≡ Some v → keeps_bound header (before + sum_by (λ w. record_share header w) (take k vs)) v ≡ true)
    → past_bound header before n vs ≡ None
past_none header [] before n h = refl
past_none header (v ∷ vs) before n h =
    rw (ap (λ (m : ℕ). keeps_bound header m v) {x = before} {y = before + 0} (omega arith) ∙ h 0 v refl) (past_none header vs (before + record_share header v) (suc n)
    (λ k w g. ap (λ (m : ℕ). keeps_bound header m w) (omega (arith, sum_by-cons (λ x. record_share header x) v (take k vs))) ∙ h (suc k) w g))

pub record Fits (header : Header) (before : ℕ) (v : Var) : Type 0 where
  pub end : v.begin + vsize header v < 2 ^ 62
  pub records : is_record header v ≡ true → before + vsize header v < 2 ^ 62

keeps : (header : Header) (before : ℕ) (v : Var) → header.records ≡ 0 → Fits header before v → keeps_bound header before v ≡ true
keeps header before v none h = grind (arith, nat_tests, and_from)

pub laid_measure : (header : Header) (align : Align) (len first : ℕ) → header.records ≡ 0 → HasPlace header align len first → measure (begins header align len) ≡ None
laid_measure header align len first none place =
    past_none (begins header align len) (placed header align len 0 header.vars) 0 0 (λ k w g. kept k w (lies_at header align len k w g))
  where
    kept : (k : ℕ) (w : Var) → ((v : Var) × Lies header k v × (in_place header align len k v ≡ w))
        → keeps_bound (begins header align len) (0 + sum_by (λ x. record_share header x) (take k (placed header align len 0 header.vars))) w ≡ true
    kept k w found =
        let v = found.0 in
        let seen = placed_sum_front (λ x. record_share header x) (λ x b. refl) header align len 0 header.vars k ∙ shares_are header (take k header.vars) in
        let fits : Fits (begins header align len) (0 + sum_by (λ x. record_share header x) (take k (placed header align len 0 header.vars))) (in_place header align len k v) =
        elim (holds_or_not (is_record header v)) [
          | inl e ↦
              let near = record_near header align len k v place.records_fit found.1 e in
              record { end = omega (arith, near, begin_record header align len k v e); records = λ f. omega (arith, near, seen) }
          | inr e ↦ record {
            end = omega (arith, fixed_near header align len k v place.fixed_fit found.1 e, begin_fixed header align len k v e);
            records = λ f. no_both _ f e;
          }
        ] in
        rw (← found.2) (keeps (begins header align len) _ (in_place header align len k v) none fits)
