-- Each element of an old variable lies in one of its slabs, as far from the slab's beginning in the new file as in the old one;
-- and each byte of a slab is a byte of an element.
use Rattle.redef_laws.proofs.Words.{◌≡◌, ℕ, ◌+◌, ◌*◌, ◌/◌, ◌%◌, ◌<◌, ◌≤◌, refl, ◌∙◌, ap, List, [], ◌∷◌, map, true, false, holds_or_not, cond, Some, arith, row_fits, div-add-mod', div_below, mod_below, nat_tests, zip, slice_get, some_factor, Header, Var, Slab, slabs, slabs_of, size_of, is_sound, product, lengths, starts_with_zero, without_record, is_record, slab, inner_lengths, recsize, place, row, record_of, within_record, IsIndex, IsElementBelow, known_lengths, KeepsVars, Moves, row_below, known_of, index_is_element, In, in_flat, first_slab, in_record, in_zip}
use Rattle.redef_laws.proofs.SlabLaws.{in_row, slab_in}

-- ---- places

-- the record of an element, which is 0 in a fixed variable, and where the element stands there
abbrev row_number : List ℕ → List ℕ → ℕ
row_number lens index = cond (starts_with_zero lens) (record_of index) 0

abbrev row_place : List ℕ → List ℕ → ℕ
row_place lens index = row (without_record lens) (cond (starts_with_zero lens) (within_record index) index)

place_is : (header : Header) (v : Var) (index : List ℕ)
    → place header v index ≡ v.begin + row_number (lengths header v) index * recsize header + row_place (lengths header v) index * size_of v.kind
place_is header v index = grind (arith, nat_tests, holds_or_not (is_record header v))

-- the variable has the same kind and lengths in both headers
record IsKept (old new : Header) (v w : Var) : Type 0 where
  kind : w.kind ≡ v.kind
  lens : lengths new w ≡ lengths old v

kept : (old new : Header) → KeepsVars old new → (k : ℕ) (v w : Var) → slice_get old.vars k ≡ Some v → slice_get new.vars k ≡ Some w → IsKept old new v w
kept old new keeps k v w h g = grind (arith, nat_tests)

new_place : (old new : Header) (v w : Var) (index : List ℕ) → IsKept old new v w
    → place new w index ≡ w.begin + row_number (lengths old v) index * recsize new + row_place (lengths old v) index * size_of v.kind
new_place old new v w index a = grind (arith, nat_tests, place_is new w index, a.lens, a.kind)

-- ---- an element lies in a slab

pub record LiesIn (s : Slab) (from to size : ℕ) : Type 0 where
  pub off : ℕ
  pub old : from ≡ s.from + off
  pub new : to ≡ s.to + off
  pub inside : off + size ≤ s.len

abbrev pub HasSlab : Header → Header → ℕ → ℕ → ℕ → Type 0
HasSlab old new from to size = (s : Slab) × In (slabs old new) s × LiesIn s from to size

record HasRow (lens : List ℕ) (known : ℕ) (index : List ℕ) : Type 0 where
  once : starts_with_zero lens ≡ false → row_number lens index ≡ 0
  below : starts_with_zero lens ≡ true → row_number lens index < known
  inside : row_place lens index < product (without_record lens)

has_row : (header : Header) (v : Var) (n : ℕ) (index : List ℕ) → IsElementBelow header v n index → HasRow (lengths header v) n index
has_row header v n index own = grind (arith, nat_tests, holds_or_not (is_record header v), row_below (inner_lengths header v), own.0, own.1)

element_in : (old new : Header) → is_sound old ≡ true → KeepsVars old new → (k : ℕ) (v w : Var) (index : List ℕ) → slice_get old.vars k ≡ Some v → slice_get new.vars k ≡ Some w
    → IsIndex (known_lengths old v old.records) index → HasSlab old new (place old v index) (place new w index) (size_of v.kind)
element_in old new sound keeps k v w index h g i =
    let r = has_row old v old.records index (index_is_element old k v old.records index sound h i) in
    grind (arith, nat_tests, in_flat (slabs_of old new) (zip old.vars new.vars) (v, w), in_zip old.vars new.vars k v w h g, in_row old new (v, w) (in_record (recsize old) (recsize new) (row_number (lengths old v) index) (first_slab old (v, w))), place_is old v index, new_place old new v w index (kept old new keeps k v w h g), row_fits (row_place (lengths old v) index) (size_of v.kind) (product (inner_lengths old v)) (size_of v.kind) r.inside, r.once, r.below, v.begin, w.begin)

pub element_in_slab : (old new : Header) → is_sound old ≡ true → KeepsVars old new → (from to size : ℕ) → Moves old new from to size → HasSlab old new from to size
element_in_slab old new sound keeps from to size (k, v, w, index, h, g, i, f, t, s) = grind (arith, nat_tests, element_in old new sound keeps k v w index h g i)

-- ---- each number below the product is that of an index

index_of_row : (lens : List ℕ) (q : ℕ) → q < product lens → (index : List ℕ) × IsIndex lens index × (row lens index ≡ q)
index_of_row [] q h = ([], tt, omega arith)
index_of_row (n ∷ lens) q h =
    let some = some_factor n (product lens) q h in
    let rest = index_of_row lens (q % product lens) (mod_below q (product lens) some) in (
      (q / product lens) ∷ rest.0,
      (div_below q (product lens) n some h, rest.1),
      ap (λ (r : ℕ). q / product lens * product lens + r) rest.2 ∙ div-add-mod' q (product lens),
    )

-- ---- an index within the inner lengths is one below the known lengths

known_inner : (known : ℕ) (lens index : List ℕ) → IsIndex lens index → IsIndex (map (known_of known) lens) index
known_inner known [] [] h = tt
known_inner known (n ∷ lens) (i ∷ index) h = grind (arith, nat_tests, known_inner known lens index h.1)
known_inner known xs ys h = absurd h

known_record : (known : ℕ) (lens index : List ℕ) (r : ℕ) → starts_with_zero lens ≡ true → r < known → IsIndex (without_record lens) index
    → IsIndex (map (known_of known) lens) (r ∷ index)
known_record known lens index r e l h = grind (arith, nat_tests, known_inner)

-- ---- each byte of a slab is an element's

-- the byte x of the old file is one of an element that moves, and y is its place in the new file
pub record IsElementByte (old new : Header) (x y : ℕ) : Type 0 where
  pub from : ℕ
  pub to : ℕ
  pub size : ℕ
  pub byte : ℕ
  pub moves : Moves old new from to size
  pub inside : byte < size
  pub before : from + byte ≡ x
  pub after : to + byte ≡ y

abbrev HasBytes : Header → Header → Slab → Type 0
HasBytes old new s = (d : ℕ) → d < s.len → IsElementByte old new (s.from + d) (s.to + d)

-- a row of a record, or of a fixed variable, by its index
record IsAtRow (lens : List ℕ) (known r q : ℕ) : Type 0 where
  index : List ℕ
  within : IsIndex (map (known_of known) lens) index
  number : row_number lens index ≡ r
  at : row_place lens index ≡ q

at_row : (lens : List ℕ) (known r q : ℕ) → (starts_with_zero lens ≡ false → r ≡ 0) → (starts_with_zero lens ≡ true → r < known) → q < product (without_record lens) → IsAtRow lens known r q
at_row lens known r q once below l =
    grind (arith, nat_tests, index_of_row (without_record lens) q l, holds_or_not (starts_with_zero lens), known_inner, known_record known lens (index_of_row (without_record lens) q l).0 r)

pub slab_bytes : (old new : Header) → KeepsVars old new → (s : Slab) → In (slabs old new) s → HasBytes old new s
slab_bytes old new keeps s h d l =
    let p = slab_in old new s keeps h in
    let size = size_of p.was.kind in
    let inside : d < slab old p.was = grind (arith, nat_tests, l, p.at.is) in
    let some : 0 < size = some_factor (product (inner_lengths old p.was)) size d inside in
    let e = at_row (lengths old p.was) old.records p.at.row (d / size) p.at.once p.at.below (div_below d size (product (inner_lengths old p.was)) some inside) in
    let own = kept old new keeps p.number p.was p.now p.pair.at_old p.pair.at_new in
    let whole = div-add-mod' d size in
    let one = place_is old p.was e.index in
    let two = new_place old new p.was p.now e.index own in
    record {
      from = place old p.was e.index;
      to = place new p.now e.index;
      size = size;
      byte = d % size;
      moves = (p.number, p.was, p.now, e.index, p.pair.at_old, p.pair.at_new, e.within, refl, refl, refl);
      inside = mod_below d size some;
      before = grind (arith, nat_tests, one, whole, p.at.is, e.number, e.at);
      after = grind (arith, nat_tests, two, whole, p.at.is, e.number, e.at);
    }
