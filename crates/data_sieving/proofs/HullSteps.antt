-- The hull of entries, entry by entry.
use Rattle.data_sieving.proofs.Words.{◌≡◌, ℕ, ◌+◌, ◌-◌, ◌<◌, ◌≤◌, ◌⊎◌, inl, inr, List, [], ◌∷◌, ◌++◌, append_assoc, length, take, get_or, Bool, true, false, min, max, Some, slice_get, arith, take_more, take_all, slice_get-get_or, entry_in, Owned, Window, In, extents, IsByPlace, in_either, in_left, in_right, AreFilled, IsCovered, IsHull, Reach, covered_left, before_or_later, nat_tests, ltb-true, ltb-false, nil_from_length, slice_get_cases, at_in}

-- the entries seen so far reach up to a place, with a hole before it or not
pub record Scanned (at stop end : ℕ) (solid : Bool) (whole seen : List Owned) (count : ℕ) : Type 0 where
  pub low : at ≤ end
  pub high : end ≤ stop
  pub some : 0 < count → at < end
  pub reach : (o : Owned) → In seen o → min stop (o.extent.at + o.extent.len) ≤ end
  pub last : at < end → IsCovered seen (end - 1)
  pub full : solid ≡ true → (x : ℕ) → at ≤ x → x < end → IsCovered seen x
  pub hole : solid ≡ false → (x : ℕ) × (at ≤ x) × (x < end) × (IsCovered whole x → ⊥)

more_by : (seen more : List Owned) (o : Owned) (x : ℕ) → more ≡ seen ++ o ∷ [] → o.extent.at ≤ x → x < o.extent.at + o.extent.len → IsCovered more x
more_by seen more o x e l h = grind (arith, nat_tests, in_right seen (o ∷ []) o)

scan : (at stop end next count more_count : ℕ) (solid more_solid : Bool) (whole seen more : List Owned) (o : Owned) → more ≡ seen ++ o ∷ [] → more_count ≡ count + 1
    → ((p : Owned) → In whole p → In seen p ⊎ (o.extent.at ≤ p.extent.at)) → 1 ≤ o.extent.len → o.extent.at < stop
    → (count ≡ 0 → at < o.extent.at + o.extent.len) → at < stop → next ≡ max end (min (o.extent.at + o.extent.len) stop)
    → (more_solid ≡ true → (solid ≡ true) × (o.extent.at ≤ end)) → (more_solid ≡ false → (solid ≡ false) ⊎ (end < o.extent.at))
    → Scanned at stop end solid whole seen count → Scanned at stop next more_solid whole more more_count
scan at stop end next count more_count solid more_solid whole seen more o e m apart filled begin first room n keeps breaks h = record {
  low = (let l = h.low in omega arith);
  high = (let l = h.high in omega arith);
  some = grind (arith, nat_tests, h.some);
  reach = grind (arith, nat_tests, in_either, h.reach);
  last = grind (arith, nat_tests, more_by, o.extent.at, o.extent.len, h.last, covered_left);
  full = grind (arith, nat_tests, more_by, h.full, covered_left);
  hole = λ s. elim (breaks s) [
    | inl g ↦ (let r = h.hole g in let m = r.2 in (r.0, r.1, omega arith, r.3))
    | inr g ↦ (end, h.low, omega arith, (λ c. grind (arith, nat_tests, apart c.by, h.reach c.by)))
  ];
}

-- one entry more, which is the next behind those that were carried
pub scanned_more : (at stop end next i : ℕ) (solid more_solid : Bool) (carried fresh : List Owned) (o d : Owned) → i < length fresh → o ≡ get_or fresh i d
    → IsByPlace (extents fresh) → AreFilled fresh → ((p : Owned) → In fresh p → p.extent.at < stop)
    → ((p : Owned) → slice_get (carried ++ fresh) 0 ≡ Some p → at < p.extent.at + p.extent.len) → at < stop
    → next ≡ max end (min (o.extent.at + o.extent.len) stop)
    → (more_solid ≡ true → (solid ≡ true) × (o.extent.at ≤ end)) → (more_solid ≡ false → (solid ≡ false) ⊎ (end < o.extent.at))
    → Scanned at stop end solid (carried ++ fresh) (carried ++ take i fresh) (length carried + i)
    → Scanned at stop next more_solid (carried ++ fresh) (carried ++ take (i + 1) fresh) (length carried + (i + 1))
scanned_more at stop end next i solid more_solid carried fresh o d l e sorted filled before first room n keeps breaks h =
    let inside : In fresh o = grind (arith, nat_tests, e, entry_in fresh i d l) in
    scan at stop end next (length carried + i) (length carried + (i + 1)) solid more_solid (carried ++ fresh) (carried ++ take i fresh) (carried ++ take (i + 1) fresh) o
    (grind (arith, nat_tests, e, take_more fresh i d l, append_assoc carried (take i fresh) (o ∷ []))) (omega arith)
    (λ p m. grind (arith, nat_tests, in_either carried fresh p m, in_left, in_right, before_or_later fresh i d p l sorted))
    (filled o inside) (before o inside) (λ z. grind (arith, nat_tests, first o, slice_get-get_or fresh i d l, nil_from_length carried, e)) room n keeps breaks h

-- those that were carried leave no hole
pub reach_scanned : (at stop end : ℕ) (carried fresh : List Owned) → at < stop → ((o : Owned) → In carried o → (o.extent.at ≤ at) × (at < o.extent.at + o.extent.len))
    → Reach at stop carried end → Scanned at stop end true (carried ++ fresh) (carried ++ take 0 fresh) (length carried + 0)
reach_scanned at stop end carried fresh room across r =
    let further : (o : Owned) → In carried o → at < end = λ o m. grind (arith, nat_tests, r.each o m, across o m) in
    let some : 0 < length carried → at < end = λ g. elim (slice_get_cases carried 0).1 [ inl q ↦ further q.0 (at_in carried 0 q.0 q.2) | inr q ↦ (let z = q.0 in absurd (omega arith)) ] in
    grind (arith, nat_tests, some, in_either carried (take 0 fresh), covered_left carried (take 0 fresh), r.low, r.high, r.each, r.all)

pub reach_none : (at stop : ℕ) (list : List Owned) → at < stop → Reach at stop (take 0 list) at
reach_none at stop list room = grind (arith, nat_tests)

pub reach_more : (at stop end next i : ℕ) (list : List Owned) (d : Owned) → i < length list
    → ((o : Owned) → In list o → (o.extent.at ≤ at) × (at < o.extent.at + o.extent.len))
    → next ≡ max end (min ((get_or list i d).extent.at + (get_or list i d).extent.len) stop) → at < stop
    → Reach at stop (take i list) end → Reach at stop (take (i + 1) list) next
reach_more at stop end next i list d l across n room r =
    grind (arith, nat_tests, take_more list i d l, entry_in list i d l, in_either, ltb-true, ltb-false, more_by, covered_left)

pub all_scanned : (at stop end i : ℕ) (solid : Bool) (carried fresh : List Owned) (w : Window) → length fresh ≤ i → 1 ≤ length carried + i
    → Scanned at stop end solid (carried ++ fresh) (carried ++ take i fresh) (length carried + i)
    → w.hull.at ≡ at → w.hull.len ≡ end - at → w.full ≡ solid → IsHull at stop (carried ++ fresh) w
all_scanned at stop end i solid carried fresh w l one h begin long is = grind (arith, nat_tests, take_all)
