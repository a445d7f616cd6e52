-- Where the elements of an accepted region lie.
use Rattle.vara_extents.proofs.Words.{◌≡◌, ℕ, ◌+◌, ◌^◌, ◌<◌, ◌≤◌, sym, ap, ◌∙◌, List, [], ◌∷◌, map, true, false, Option, Some, arith, slice_get, or_parts, leb-false, ltb-false, size_pos, each_map, each_weaker, each_at, Header, Var, Extent, Region, size_of, header_len, is_sound, product, end_of, inner_lengths, is_record, recsize, place, within_record, IsElement, IsElementBelow, records_of, check_some, check_var, asks_too_much, elements, places, accepted_elements, slab_fits, index_record, element_inside, product_pos, IsAccepted, element_extents, extents_of, index_of, nat_tests}
use Rattle.nc_base.specs.declared.answer.Code.TheVariants as code
use Rattle.vara_extents.proofs.AcceptedLaws.{passed}
use Rattle.vara_extents.proofs.JoinLaws.{AreSome, EndBy, joined_all}
use Rattle.vara_extents.proofs.NumberLaws.{element_at}

pub accepted_var : (header : Header) (k : ℕ) (v : Var) (g : Region) → slice_get header.vars k ≡ Some v → (h : IsAccepted header k g) → check_var header v g h.0 h.1 ≡ code.Ok
accepted_var header k v g is h = ap (λ (o : Option Var). check_some header o g h.0 h.1) (sym is) ∙ h.2

-- what an accepted region's size is
pub record IsSmall (header : Header) (v : Var) (g : Region) : Type 0 where
  pub elements : product g.count ≤ 2 ^ 20
  pub ends : end_of header (header_len header) (records_of header v g) < 2 ^ 62

pub accepted_small : (header : Header) (v : Var) (g : Region) → asks_too_much header v g ≡ false → IsSmall header v g
accepted_small header v g h = grind (arith, nat_tests, or_parts, ltb-false, leb-false)

-- element n of an accepted region
pub record IsPlaced (header : Header) (v : Var) (g : Region) (n : ℕ) : Type 0 where
  pub element : IsElement header v (index_of g n)
  pub before_end : place header v (index_of g n) + size_of v.kind ≤ end_of header (header_len header) (records_of header v g)
  pub low : place header v (index_of g n) + size_of v.kind < 2 ^ 62

pub accepted_place : (header : Header) (k : ℕ) (v : Var) (g : Region) (n : ℕ) → is_sound header ≡ true → slice_get header.vars k ≡ Some v → IsAccepted header k g
    → n < product g.count → IsPlaced header v g n
accepted_place header k v g n sound is h below =
    let ok = accepted_var header k v g is h in
    grind (arith, nat_tests, accepted_elements header k v g h.0 h.1 sound is ok, each_at (IsElementBelow header v (records_of header v g)) (elements g) n (index_of g n), element_at g n below, element_inside header (header_len header) (records_of header v g) k v (index_of g n) is, accepted_small header v g (passed header v g h.0 h.1 ok).large, passed header v g h.0 h.1 ok)

-- a record has bytes, where it has an element
pub wide_records : (header : Header) (k : ℕ) (v : Var) (index : List ℕ) → slice_get header.vars k ≡ Some v → is_record header v ≡ true → IsElement header v index → 1 ≤ recsize header
wide_records header k v index there e h =
    let some = product_pos (inner_lengths header v) (within_record index) (index_record header v index e h).1 in
    grind (arith, nat_tests, size_pos v.kind, slab_fits header k v there e)

-- ---- extents

pub extents_inside : (header : Header) (first k : ℕ) (v : Var) (g : Region) → is_sound header ≡ true → slice_get header.vars k ≡ Some v → IsAccepted header k g
    → EndBy (end_of header first (records_of header v g)) (extents_of header v g)
extents_inside header first k v g sound is h =
    let n = end_of header first (records_of header v g) in
    joined_all (λ (e : Extent). e.at + e.len ≤ n) (λ e d s a b. omega (arith, s, a, b)) (element_extents header v g)
    (each_map (λ (e : Extent). e.at + e.len ≤ n) (λ x. record { at = x; len = size_of v.kind }) (places header v g)
    (each_map (λ x. x + size_of v.kind ≤ n) (λ i. place header v i) (elements g)
    (each_weaker (IsElementBelow header v (records_of header v g)) (λ i. place header v i + size_of v.kind ≤ n)
    (λ i b. element_inside header first (records_of header v g) k v i is b) (elements g)
    (accepted_elements header k v g h.0 h.1 sound is (accepted_var header k v g is h)))))

pub extents_some : (header : Header) (v : Var) (g : Region) → AreSome (extents_of header v g)
extents_some header v g = joined_all (λ (e : Extent). 1 ≤ e.len) (λ e d s a b. omega (arith, a)) (element_extents header v g) (each (places header v g))
  where
    each : (xs : List ℕ) → AreSome (map (λ x. record { at = x; len = size_of v.kind }) xs)
    each [] = tt
    each (x ∷ xs) = (size_pos v.kind, each xs)

pub small_of : (header : Header) (k : ℕ) (v : Var) (g : Region) → slice_get header.vars k ≡ Some v → IsAccepted header k g → IsSmall header v g
small_of header k v g is h = accepted_small header v g (passed header v g h.0 h.1 (accepted_var header k v g is h)).large
