-- The slabs of the old variables as they rise: they are all slabs, and each begins above those before it.
use Rattle.redef_laws.proofs.Words.{◌≡◌, ℕ, ◌+◌, ◌<◌, refl, sym, ◌∙◌, inl, inr, ◌↔◌, List, map, Bool, true, false, true≢false, holds_or_not, in_range, range_high, reverse, arith, cases_eq, row_fits, filter, flat_map, zip, not, range_with_len, Header, Var, Slab, highest_first, slabs, slabs_of, stands_above, stands_below, stores, zero_calls, header_len, is_sound, is_record, recsize, slab, slab_fits, In, filter_in, in_filter, in_left, in_right, in_either, in_flat, flat_in, first_slab, fixed_slabs, record_slabs, in_record, slabs_of_record, rising, changes, gaps, IsRisen, new_end, in_map, map_in, zip_in, nat_tests}
use Rattle.serial_spec.specs.Lists.{sorted_by}
use Rattle.redef_laws.proofs.Orders.{Orders, Pairwise, pairs_append, pairs_by_place, pairs_filter, pairs_flat, pairs_map, pairs_range, pairs_reverse, pairs_weaker, reverse_in, in_reverse, same_pairs, sorted_in, in_sorted, sorted_pairs}
use Rattle.redef_laws.proofs.SoundVars.{slab_holds, vars_apart}
use Rattle.redef_laws.proofs.SlabLaws.{IsInRow, IsRaised, in_place, in_row as in_row_of, row_of}
use Rattle.redef_laws.proofs.SlabOrder.{Differ, begins_differ, raised_shifts, slabs_differ, zip_at}
use Rattle.redef_laws.proofs.ChainLaws.{Below, shifted_risen}
use Rattle.redef_laws.proofs.GapLaws.{zeros_between}

-- the old variables with the new ones
abbrev pairs : Header → Header → List (Var × Var)
pairs old new = zip old.vars new.vars

abbrev fixed_pairs : Header → Header → List (Var × Var)
fixed_pairs old new = filter (λ p. not (is_record old p.0)) (pairs old new)

abbrev record_pairs : Header → Header → List (Var × Var)
record_pairs old new = filter (λ p. is_record old p.0) (pairs old new)

abbrev in_row : Header → Header → ℕ → Slab → Slab
in_row old new r s = in_record (recsize old) (recsize new) r s

abbrev records : Header → List ℕ
records old = range_with_len 0 old.records

-- ---- whose slab a slab is

record IsOf (old new : Header) (t : Bool) (row : ℕ) (s : Slab) : Type 0 where
  var : Var × Var
  there : In (pairs old new) var
  kind : is_record old var.0 ≡ t
  is : in_row old new row (first_slab old var) ≡ s

fixed_of : (old new : Header) (s : Slab) → In (fixed_slabs old new) s → IsOf old new false 0 s
fixed_of old new s m = grind (arith, nat_tests, map_in, sorted_in, filter_in, in_place, not, pairs, first_slab, fixed_pairs, stands_below)

record_of : (old new : Header) (r : ℕ) (s : Slab) → In (slabs_of_record old new r) s → IsOf old new true r s
record_of old new r s m = grind (arith, nat_tests, map_in, sorted_in, filter_in, pairs, in_row)

-- ---- the slabs as they rise are all slabs

rising_in : (old new : Header) (s : Slab) → In (rising old new) s → In (slabs old new) s
rising_in old new s h = elim (in_either (fixed_slabs old new) (flat_map (slabs_of_record old new) (records old)) s h) [
  | inl m ↦
      let f = fixed_of old new s m in
      in_flat (slabs_of old new) (pairs old new) f.var s f.there (in_row_of old new f.var s (record { row = 0; once = λ e. refl; below = λ e. absurd (true≢false (sym e ∙ f.kind)); is = f.is }))
  | inr m ↦
      let r = flat_in (slabs_of_record old new) (records old) s m in
      let f = record_of old new r.0 s r.2 in
      let row : IsInRow old new f.var s = record { row = r.0; once = λ e. absurd (true≢false (sym f.kind ∙ e)); below = λ e. omega (arith, range_high 0 old.records r.0 r.1); is = f.is } in
      in_flat (slabs_of old new) (pairs old new) f.var s f.there (in_row_of old new f.var s row)
]

in_rising : (old new : Header) (s : Slab) → In (slabs old new) s → In (rising old new) s
in_rising old new s h =
    let found = flat_in (slabs_of old new) (pairs old new) s h in
    grind (arith, nat_tests, row_of old new found.0 s found.2, holds_or_not (is_record old found.0.0), in_left (fixed_slabs old new) (flat_map (slabs_of_record old new) (records old)) s, in_sorted stands_below (map (first_slab old) (fixed_pairs old new)) s, in_place (first_slab old found.0) (recsize old) (recsize new), in_map (first_slab old) (fixed_pairs old new) found.0, in_filter, in_right (fixed_slabs old new) (flat_map (slabs_of_record old new) (records old)) s, in_flat (slabs_of_record old new) (records old) (row_of old new found.0 s found.2).row s, in_range 0 old.records (row_of old new found.0 s found.2).row, in_map (in_row old new (row_of old new found.0 s found.2).row) (record_slabs old new) (first_slab old found.0), in_sorted stands_below (map (first_slab old) (record_pairs old new)) (first_slab old found.0), in_map (first_slab old) (record_pairs old new) found.0, found.1, in_row, first_slab, not, pairs, fixed_slabs)

-- both lists of slabs have the same members
pub rising_all : (old new : Header) (s : Slab) → In (rising old new) s ↔ In (slabs old new) s
rising_all old new s = (rising_in old new s, in_rising old new s)

-- ---- the slabs ascend

below_orders : Orders stands_below Differ Below
below_orders = grind (arith, nat_tests, cases_eq)

module _ (old new : Header) (sound : is_sound old ≡ true) where
  firsts_differ : Pairwise (λ p q. Differ (first_slab old p) (first_slab old q)) (pairs old new)
  firsts_differ = pairs_by_place (λ p q. Differ (first_slab old p) (first_slab old q)) (pairs old new) (λ i j p q l e f h.
      let a = (zip_at old.vars new.vars i p e).0 in
      grind (arith, nat_tests, zip_at old.vars new.vars j q f, begins_differ (recsize old) 0 p.0.begin (slab old p.0) q.0.begin (slab old q.0) 0 0 0 0 (is_record old p.0), vars_apart old i j p.0 q.0 sound a ((zip_at old.vars new.vars j q f).0), slab_holds old i p.0 sound a, slab_holds old j q.0 sound ((zip_at old.vars new.vars j q f).0)))

  kind_ascends : (t : Var × Var → Bool) → Pairwise Below (sorted_by stands_below (map (first_slab old) (filter t (pairs old new))))
  kind_ascends t =
      sorted_pairs stands_below Differ Below below_orders (map (first_slab old) (filter t (pairs old new)))
      (pairs_map Differ (first_slab old) (filter t (pairs old new))
      (pairs_filter (λ p q. Differ (first_slab old p) (first_slab old q)) t (pairs old new) firsts_differ))

  -- a record begins above those before it, and a record variable above the fixed ones
  next_below : (p q : Var × Var) → In (pairs old new) p → In (pairs old new) q → is_record old q.0 ≡ true → p.0.begin < q.0.begin + recsize old
  next_below p q m n e =
      let a = zip_in old.vars new.vars p m in
      let b = zip_in old.vars new.vars q n in
      let some = slab_holds old b.0 q.0 sound b.1 in
      let fits = slab_fits old b.0 q.0 b.1 e in
      grind (arith, nat_tests, cases_eq a.0 b.0, some, fits, a.1, b.1, holds_or_not (is_record old p.0), vars_apart old a.0 b.0 p.0 q.0 sound a.1 b.1, slab_holds old a.0 p.0 sound a.1)

  fixed_low : (p q : Var × Var) → In (pairs old new) p → In (pairs old new) q → is_record old p.0 ≡ false → is_record old q.0 ≡ true → p.0.begin < q.0.begin
  fixed_low p q m n f e =
      let a = zip_in old.vars new.vars p m in
      let b = zip_in old.vars new.vars q n in
      let last = (vars_apart old a.0 b.0 p.0 q.0 sound a.1 b.1 (λ g. grind (arith, nat_tests, g, a.1, b.1))).record_last f e in
      omega (arith, last, slab_holds old a.0 p.0 sound a.1)

  rising_ascends : Pairwise Below (rising old new)
  rising_ascends =
      pairs_append Below (fixed_slabs old new) (flat_map (slabs_of_record old new) (records old)) (kind_ascends (λ p. not (is_record old p.0)))
      (pairs_flat Below (slabs_of_record old new) (records old)
      (λ r m. pairs_map Below (in_row old new r) (record_slabs old new)
      (pairs_weaker Below (λ s t. Below (in_row old new r s) (in_row old new r t)) (record_slabs old new) (λ s t m n l. omega (arith, l)) (kind_ascends (λ p. is_record old p.0))))
      (pairs_weaker (λ r q. r < q) (λ r q. (s t : Slab) → In (slabs_of_record old new r) s → In (slabs_of_record old new q) t → Below s t) (records old)
      (λ r q i j l s t m n.
      let a = record_of old new r s m in
      grind (arith, nat_tests, record_of old new q t n, row_fits r (recsize old) q (recsize old) l, next_below a.var (record_of old new q t n).var a.there (record_of old new q t n).there, a.is))
      (pairs_range 0 old.records)))
      (λ s t m n.
      let r = flat_in (slabs_of_record old new) (records old) t n in
      grind (arith, nat_tests, fixed_of old new s m, record_of old new r.0 t r.2, fixed_low (fixed_of old new s m).var (record_of old new r.0 t r.2).var (fixed_of old new s m).there))

-- ---- the laws

above_orders : Orders stands_above Differ (λ s t. Below t s)
above_orders = grind (arith, nat_tests, cases_eq)

module _ (old new : Header) (raised : IsRaised old new) where
  pub rising_risen : IsRisen (header_len old) (header_len new) (rising old new)
  rising_risen = shifted_risen (header_len old) (header_len new) (new_end old new) (slabs old new) (rising old new) (raised_shifts old new raised) (rising_in old new) (rising_ascends old new raised.sound_old)

  -- The highest slabs first, without those that stay, are the slabs as they rise, backwards.
  pub rising_falls : highest_first (filter changes (slabs old new)) ≡ filter changes (reverse (rising old new))
  rising_falls =
      same_pairs (λ s t. Below t s) (λ s t l m. absurd (omega (arith, l, m))) (highest_first (filter changes (slabs old new))) (filter changes (reverse (rising old new)))
      (sorted_pairs stands_above Differ (λ s t. Below t s) above_orders (filter changes (slabs old new)) (pairs_filter Differ changes (slabs old new) (slabs_differ old new raised)))
      (pairs_filter (λ s t. Below t s) changes (reverse (rising old new)) (pairs_reverse Below (rising old new) (rising_ascends old new raised.sound_old))) (
        (λ s m. grind (arith, nat_tests, sorted_in stands_above (filter changes (slabs old new)) s m, filter_in changes, in_filter changes, in_reverse, in_rising old new s)),
        (λ s m. grind (arith, nat_tests, filter_in changes, in_sorted stands_above (filter changes (slabs old new)) s, in_filter changes, reverse_in, rising_in old new s)),
      )

  pub rising_zeros : (z : ℕ) → 0 < z → zero_calls z old new ≡ flat_map (λ g. stores z g.0 g.1) (gaps (header_len new) (new_end old new) (rising old new))
  rising_zeros z some =
      zeros_between z (header_len old) (header_len new) (new_end old new) (slabs old new) (rising old new) some rising_risen
      (omega arith) (λ s m. ((raised_shifts old new raised).each s (rising_in old new s m)).inside) (in_rising old new, rising_in old new)
