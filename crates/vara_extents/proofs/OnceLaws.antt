-- No byte of an accepted region stands twice.
use Rattle.vara_extents.proofs.Words.{◌≡◌, ℕ, zero, suc, ◌+◌, ◌*◌, ◌/◌, ◌%◌, ◌<◌, inl, inr, refl, sym, ap, subst, ◌∙◌, List, [], ◌∷◌, length, true, false, eqb, Option, Some, None, arith, slice_get, flat_map, range_with_len, list_any, cases_eq, div-add-mod', mod_below, slice_get_within, same_Some, length-range_with_len, size_pos, same_factor, Header, Var, Post, Region, size_of, is_sound, product, place, IsIndex, index_at, places, bytes_of, bytes_of_some, elements_apart, IsAccepted, extents_of, element_extents, spans, IsOnce, coordinates_of, index_of, get_left, get_right, nat_tests}
use Rattle.list_laws.proofs.Std.{flat_map-map}
use Rattle.serial_spec.proofs.AcceptLaws as accept
use Rattle.vara_extents.proofs.AcceptedLaws.{passed}
use Rattle.vara_extents.proofs.JoinLaws.{joined_spans}
use Rattle.vara_extents.proofs.NumberLaws.{numbered_index, numbered_row, place_at, length-places}
use Rattle.vara_extents.proofs.PlaceLaws.{accepted_var, accepted_place}

-- ---- blocks of one length

-- place r of block q
pub in_block : {A B : Type 0} (f : A → List B) (p : ℕ) → ((x : A) → length (f x) ≡ p) → (xs : List A) (q r : ℕ) (b : B) → r < p → slice_get (flat_map f xs) (q * p + r) ≡ Some b
    → (x : A) × (slice_get xs q ≡ Some x) × (slice_get (f x) r ≡ Some b)
in_block f p l [] q r b h e = absurd cc
in_block f p l (x ∷ xs) zero r b h e = grind (arith, nat_tests, get_left (f x) (flat_map f xs) r (omega arith))
in_block f p l (x ∷ xs) (suc q) r b h e =
    grind (arith, nat_tests, in_block f p l xs q r b h (sym (get_right (f x) (flat_map f xs) (q * p + r) (suc q * p + r) (omega arith)) ∙ e), get_right)

pub range_at : (a n r b : ℕ) → slice_get (range_with_len a n) r ≡ Some b → b ≡ a + r
range_at a zero r b e = absurd cc
range_at a (suc n) r b e = grind (arith, nat_tests, range_at (a + 1) n)

-- ---- elements with other numbers are other elements

same_coordinates : (counts starts strides c d : List ℕ) → length starts ≡ length counts → length strides ≡ length counts → list_any (λ t. eqb t 0) strides ≡ false
    → IsIndex counts c → IsIndex counts d → index_at starts strides c ≡ index_at starts strides d → c ≡ d
same_coordinates [] starts strides [] [] a b s h k e = refl
same_coordinates (n ∷ counts) (x ∷ starts) (t ∷ strides) (i ∷ c) (j ∷ d) a b s h k e =
    grind (arith, nat_tests, same_factor i j, same_coordinates counts starts strides c d)
same_coordinates _ _ _ _ _ a b s h k e = grind (arith, nat_tests)

-- ---- the bytes of an accepted region

module _ (header : Header) (k : ℕ) (v : Var) (g : Region) (sound : is_sound header ≡ true) (there : slice_get header.vars k ≡ Some v) (ok : IsAccepted header k g) where
  own : (m n : ℕ) → m < product g.count → n < product g.count → index_of g m ≡ index_of g n → m ≡ n
  own m n l h e =
      let a = accept.accepted header v g ok.0 ok.1 (accepted_var header k v g there ok) in
      grind (arith, nat_tests, passed header v g ok.0 ok.1 (accepted_var header k v g there ok), accepted_var header k v g there ok, same_coordinates g.count g.start g.stride (coordinates_of g.count m) (coordinates_of g.count n), numbered_index g.count m l, numbered_index g.count n h, numbered_row g.count m l, numbered_row g.count n h, a.starts, a.counts, a.strides)

  -- the element of a byte
  byte_at : (i x : ℕ) → slice_get (flat_map (λ y. range_with_len y (size_of v.kind)) (places header v g)) i ≡ Some x
      → (i / size_of v.kind < product g.count) × (i % size_of v.kind < size_of v.kind) × (place header v (index_of g (i / size_of v.kind)) + i % size_of v.kind ≡ x)
  byte_at i x d =
      let size = size_of v.kind in
      let low = mod_below i size (size_pos v.kind) in
      let own = in_block (λ y. range_with_len y size) size (λ y. length-range_with_len y size) (places header v g) (i / size) (i % size) x low
      (ap (λ (m : ℕ). slice_get (flat_map (λ y. range_with_len y size) (places header v g)) m) (div-add-mod' i size) ∙ d) in
      let below : i / size < product g.count = omega (arith, slice_get_within (places header v g) (i / size) own.0 own.1, length-places header v g) in
      (below, low, omega (arith, range_at own.0 size (i % size) x own.2, same_Some _ _ (sym (place_at header v g (i / size) below) ∙ own.1)))

  pub bytes_once : IsOnce (flat_map (λ x. range_with_len x (size_of v.kind)) (places header v g))
  bytes_once i j x d e =
      let size = size_of v.kind in
      let first = byte_at i x d in
      let second = byte_at j x e in
      let a = accepted_place header k v g (i / size) sound there ok first.0 in
      let b = accepted_place header k v g (j / size) sound there ok second.0 in
      let apart = elements_apart header k k v v (index_of g (i / size)) (index_of g (j / size)) sound there there a.element b.element in
      let same : i / size ≡ j / size = elim (cases_eq (i / size) (j / size)) [
        | inl w ↦ w
        | inr w ↦ absurd (omega (arith, first.1, first.2, second.1, second.2, apart (λ z. w (own (i / size) (j / size) first.0 second.0 z.1))))
      ] in
      omega (arith, first.2, second.2, div-add-mod' i size, div-add-mod' j size, ap (λ (n : ℕ). n * size) same, ap (λ (n : ℕ). place header v (index_of g n)) same)

-- ---- in words of extents and of posts

pub spans_are : (header : Header) (v : Var) (g : Region) → spans (extents_of header v g) ≡ flat_map (λ x. range_with_len x (size_of v.kind)) (places header v g)
spans_are header v g = grind (arith, nat_tests, joined_spans (element_extents header v g), flat_map-map)

pub spans_once : (header : Header) (k : ℕ) (v : Var) (g : Region) → is_sound header ≡ true → slice_get header.vars k ≡ Some v → IsAccepted header k g → IsOnce (spans (extents_of header v g))
spans_once header k v g sound there ok = subst IsOnce (sym (spans_are header v g)) (bytes_once header k v g sound there ok)

pub post_once : (header : Header) (post : Post) → is_sound header ≡ true → IsAccepted header post.var post.region → IsOnce (bytes_of header post)
post_once header post sound ok = by_var (slice_get header.vars post.var) refl
  where
    by_var : (o : Option Var) → slice_get header.vars post.var ≡ o → IsOnce (bytes_of_some header o post)
    by_var None e = λ i j x d f. absurd cc
    by_var (Some v) e = bytes_once header post.var v post.region sound e ok
