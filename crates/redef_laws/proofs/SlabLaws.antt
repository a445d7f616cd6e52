-- The slabs of the old variables: what they are, and where each lies.
use Rattle.redef_laws.proofs.Words.{◌≡◌, ℕ, ◌+◌, ◌*◌, ◌<◌, ◌≤◌, refl, sym, ◌∙◌, [], ◌∷◌, map, true, false, Some, arith, mul-le, slice_get, zip, range_with_len, Header, Var, Slab, slabs, slabs_of, header_len, is_sound, is_record, slab, recsize, end_of_var, KeepsVars, end_holds, slab_below, slab_shared, some_record, In, flat_in, in_map, in_range, holds_or_not, range_high, IsShifted, new_end, map_in, zip_in, first_slab, in_record, nat_tests}
use Rattle.redef_laws.proofs.RecordSizes.{same_slab, record_grows}
use Rattle.redef_laws.proofs.SoundVars.{slab_holds, past_front}

-- what a redefinition makes of the old variables
pub record IsRaised (old new : Header) : Type 0 where
  pub sound_old : is_sound old ≡ true
  pub sound_new : is_sound new ≡ true
  pub keeps : KeepsVars old new
  pub up : (k : ℕ) (v w : Var) → slice_get old.vars k ≡ Some v → slice_get new.vars k ≡ Some w → v.begin ≤ w.begin
  pub order : (k m : ℕ) (v w x y : Var) → slice_get old.vars k ≡ Some v → slice_get new.vars k ≡ Some w
      → slice_get old.vars m ≡ Some x → slice_get new.vars m ≡ Some y → is_record old v ≡ is_record old x → v.begin < x.begin → w.begin ≤ y.begin

-- ---- what the slabs are

-- an old variable stands in both headers
pub record IsPair (old new : Header) (k : ℕ) (v w : Var) : Type 0 where
  pub at_old : slice_get old.vars k ≡ Some v
  pub at_new : slice_get new.vars k ≡ Some w
  pub size : slab new w ≡ slab old v
  pub kind : is_record new w ≡ is_record old v

pub pair_at : (old new : Header) (k : ℕ) (v w : Var) → KeepsVars old new → slice_get old.vars k ≡ Some v → slice_get new.vars k ≡ Some w → IsPair old new k v w
pair_at old new k v w keeps h g =
    let found = keeps k v h in
    grind (arith, nat_tests, same_slab, new.vars, found.1)

pub slabs_fixed : (old new : Header) (p : Var × Var) → is_record old p.0 ≡ false → slabs_of old new p ≡ first_slab old p ∷ []
slabs_fixed old new p e = rw (e, slabs_of) refl

pub slabs_record : (old new : Header) (p : Var × Var) → is_record old p.0 ≡ true
    → slabs_of old new p ≡ map (λ r. in_record (recsize old) (recsize new) r (first_slab old p)) (range_with_len 0 old.records)
slabs_record old new p e = rw (e, slabs_of) refl

pub in_place : (s : Slab) (old_step step : ℕ) → in_record old_step step 0 s ≡ s
in_place s old_step step = let from : s.from + 0 * old_step ≡ s.from = omega arith in let to : s.to + 0 * step ≡ s.to = omega arith in λ i. record { from = from i; to = to i; len = s.len }

-- a slab of a variable is its first one in some row, which is row 0 where the variable is fixed
pub record IsInRow (old new : Header) (p : Var × Var) (s : Slab) : Type 0 where
  pub row : ℕ
  pub once : is_record old p.0 ≡ false → row ≡ 0
  pub below : is_record old p.0 ≡ true → row < old.records
  pub is : in_record (recsize old) (recsize new) row (first_slab old p) ≡ s

-- a slab of an old variable
pub record IsSlab (old new : Header) (s : Slab) : Type 0 where
  pub number : ℕ
  pub was : Var
  pub now : Var
  pub pair : IsPair old new number was now
  pub at : IsInRow old new (was, now) s

abbrev each_row : Header → Header → Var × Var → ℕ → Slab
each_row old new p r = in_record (recsize old) (recsize new) r (first_slab old p)

module _ (old new : Header) (p : Var × Var) (s : Slab) where
  pub row_of : In (slabs_of old new p) s → IsInRow old new p s
  row_of h = grind (arith, nat_tests, holds_or_not, map_in, slabs_record, range_high, slabs_fixed, in_place, each_row, range_with_len, first_slab)

  pub in_row : IsInRow old new p s → In (slabs_of old new p) s
  in_row r =
      let row = in_map (each_row old new p) (range_with_len 0 old.records) r.row in
      grind (arith, nat_tests, holds_or_not (is_record old p.0), slabs_record old new p, slabs_fixed old new p, r.is, row, in_range 0 old.records r.row, in_place (first_slab old p) (recsize old) (recsize new), r.once, r.below)

pub slab_of_pair : (old new : Header) (k : ℕ) (v w : Var) (s : Slab) → IsPair old new k v w → In (slabs_of old new (v, w)) s → (p : IsSlab old new s) × (p.number ≡ k)
slab_of_pair old new k v w s pair h = (record { number = k; was = v; now = w; pair = pair; at = row_of old new (v, w) s h }, refl)

pub slab_in : (old new : Header) (s : Slab) → KeepsVars old new → In (slabs old new) s → IsSlab old new s
slab_in old new s keeps h =
    let found = flat_in (slabs_of old new) (zip old.vars new.vars) s h in
    grind (arith, nat_tests, zip_in old.vars new.vars found.0 found.1, slab_of_pair old new (zip_in old.vars new.vars found.0 found.1).0 found.0.0 found.0.1 s, pair_at old new (zip_in old.vars new.vars found.0 found.1).0 found.0.0 found.0.1 keeps, found.2)

-- ---- where a slab lies

ends_in : (header : Header) (n r : ℕ) (v : Var) → (is_record header v ≡ false → r ≡ 0) → (is_record header v ≡ true → r < n) → v.begin + r * recsize header + slab header v ≤ end_of_var header n v
ends_in header n r v once below = grind (arith, nat_tests, holds_or_not (is_record header v), some_record, slab_shared, mul-le, slab_below)

pub slab_lies : (old new : Header) → IsRaised old new → (s : Slab) → In (slabs old new) s → IsShifted (header_len old) (header_len new) (new_end old new) s
slab_lies old new raised s h =
    let f = slab_in old new s raised.keeps h in
    let holds = slab_holds old f.number f.was raised.sound_old f.pair.at_old in
    let before = past_front old f.number f.was raised.sound_old f.pair.at_old in
    let after = past_front new f.number f.now raised.sound_new f.pair.at_new in
    let up = raised.up f.number f.was f.now f.pair.at_old f.pair.at_new in
    let own = ends_in new old.records f.at.row f.now (λ e. f.at.once (sym f.pair.kind ∙ e)) (λ e. f.at.below (sym f.pair.kind ∙ e)) in
    grind (arith, nat_tests, end_holds new (header_len new) old.records f.number f.now f.pair.at_new, record_grows old new raised.keeps, mul-le, f.at.is, f.pair.size)
