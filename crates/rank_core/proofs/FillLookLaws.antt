-- The posts that fill a share of a record are puts that a step takes, and hold no byte twice.
use Rattle.rank_core.proofs.Words.{nat_tests, map_map, ◌≡◌, ℕ, zero, suc, ◌+◌, ◌-◌, ◌*◌, ◌<◌, ◌≤◌, refl, sym, ap, subst, ◌∙◌, List, [], ◌∷◌, length, map, replicate, true, false, ltb, leb, eqb, ◌||◌, Option, None, Some, arith, flat_map, slice_get, list_any, range_with_len, and_left, and_parts, and_right, eqb-true, leb-true, lt-leb, or_parts, length-map, each_in, map_in, passes_at, pieces_long, Header, Var, Post, Put, Part, Region, boxes_few, In, size_of, boxes, fill_bytes, share_begin, is_sound, inner_lengths, is_record, lengths, product, starts_with_zero, without_record, most_elements, box_post, box_region, fills, find_var, is_record_past, look_fill, bad_edge, bound, bounds, check_var, asks_too_much, other_shape, some_edge, some_start, end_grows, Look, as_look, posts_of, ArePuts, IsSmall, found_long, common_steps}
use Rattle.nc_base.specs.declared.answer.Code.TheVariants as code
use Rattle.serial_spec.specs.Looks as looks
use Rattle.serial_spec.specs.RankMachine as machine
use Rattle.rank_core.proofs.FillLaws.{outcome_has, share_grows, share_within}
use Rattle.rank_core.proofs.FillPostLaws.{boxes_fit, boxes_once, boxes_small, separate_boxes, Fits, FitsPart}
use Rattle.rank_core.proofs.LookLaws.{are_towards, no_puts}
use Rattle.rank_core.proofs.SeparateLaws.{AreSeparate, IsPostOf}

-- ---- starts and ends within the lengths

one_edge : (n s c : ℕ) → s + c ≤ n → bad_edge (bound Put 0 n) s c 1 ≡ false
one_edge zero s c h = and_right (ltb 0 c) false refl
one_edge (suc n) s zero h = and_left (ltb 0 0) (leb (suc n) (s + (0 - 1) * 1)) refl
one_edge (suc n) s (suc c) h = and_right (ltb 0 (suc c)) (leb (suc n) (s + (suc c - 1) * 1)) (lt-leb (suc n) (s + (suc c - 1) * 1) (omega arith))

record AreWithin (ns starts counts : List ℕ) : Type 0 where
  start : some_start (map (bound Put 0) ns) starts counts ≡ false
  edge : some_edge (map (bound Put 0) ns) starts counts (replicate (length counts) 1) ≡ false
  starts_long : length starts ≡ length ns
  counts_long : length counts ≡ length ns

all_within : (ns starts counts : List ℕ) → Fits ns starts counts → AreWithin ns starts counts
all_within [] [] [] h = record { start = refl; edge = refl; starts_long = refl; counts_long = refl }
all_within (n ∷ ns) (s ∷ starts) (c ∷ counts) h = grind (arith, nat_tests, all_within ns starts counts h.1, one_edge)
all_within xs ys m h = absurd h

no_zero : (n : ℕ) → list_any (λ d. eqb d 0) (replicate n 1) ≡ false
no_zero zero = refl
no_zero (suc n) = no_zero n

record_lengths : (ns : List ℕ) → starts_with_zero ns ≡ true → ns ≡ 0 ∷ without_record ns
record_lengths [] h = absurd cc
record_lengths (zero ∷ ns) h = refl
record_lengths (suc n ∷ ns) h = absurd (let e = eqb-true (suc n) 0 h in omega arith)

-- ---- the check of a box of one record

dims_long : (header : Header) (v : Var) → is_record header v ≡ true → length v.dims ≡ suc (length (inner_lengths header v))
dims_long header v is = grind (arith, common_steps, record_lengths (lengths header v) is)

module _ (header : Header) (v : Var) (number : ℕ) (is : is_record header v ≡ true) (past : is_record_past header number ≡ false) (p : Part)
    (fits : FitsPart (inner_lengths header v) p) (few : product p.count ≤ most_elements) where
  abbrev region : Region
  region = box_region number p

  within : AreWithin (inner_lengths header v) p.start p.count
  within = all_within (inner_lengths header v) p.start p.count fits

  shape : other_shape (length v.dims) region ≡ false
  shape = grind (arith, common_steps, dims_long header v is, p.count, within.starts_long, within.counts_long, p.start, v.dims, region)

  starts : some_start (bounds header v 0 Put) region.start region.count ≡ false
  starts = ap (λ (ns : List ℕ). some_start (map (bound Put 0) ns) region.start region.count) (record_lengths (lengths header v) is) ∙ within.start

  edges : some_edge (bounds header v 0 Put) region.start region.count region.stride ≡ false
  edges = grind (arith, nat_tests, record_lengths, region.start, region.count, p.count, within.edge)

  small : asks_too_much header v region ≡ false
  small = grind (arith, nat_tests, end_grows, header.version, p.count, region)

  pub box_accepted : check_var header v (box_region number p) 0 Put ≡ code.Ok
  box_accepted = grind (arith, nat_tests, shape, no_zero (length p.count + 1), starts, edges, small)

-- ---- its bytes

pub box_bytes_long : (v : Var) (p : Part) → length (flat_map (λ m. fill_bytes v) (range_with_len 0 (product p.count))) ≡ product (1 ∷ p.count) * size_of v.kind
box_bytes_long v p = grind (arith, nat_tests, pieces_long, found_long v.kind v.attrs)

-- ---- the posts

pub few_dims : (header : Header) (k : ℕ) (v : Var) → is_sound header ≡ true → slice_get header.vars k ≡ Some v → length v.dims ≤ 32
few_dims header k v sound there =
    let three = and_parts _ _ sound in
    let two = and_parts _ _ three.0 in
    let one = and_parts _ _ two.0 in
    let small = and_parts _ _ one.1 in
    leb-true (length v.dims) 32 (passes_at (λ w. leb (length w.dims) 32) header.vars small.1 k v there)

abbrev AreFills : Header → List Post → Type 0
AreFills header posts = ArePuts header 0 posts × (length posts ≤ 65)

abbrev Right : Header → looks.Look → Type 0
Right header m = AreFills header (machine.posts_of m)

no_fills : (header : Header) → AreFills header []
no_fills header = (no_puts header 0, omega arith)

pub posts_filled : (k : ℕ) (v : Var) (number : ℕ) (parts : List Part) → machine.posts_of (fills k v number parts) ≡ map (box_post k v number) parts
posts_filled k v number [] = refl
posts_filled k v number (p ∷ parts) = refl

module _ (header : Header) (k : ℕ) (v : Var) (number : ℕ) (sound : is_sound header ≡ true) (there : slice_get header.vars k ≡ Some v) where
  module _ (is : is_record header v ≡ true) (from to : ℕ) (grows : from ≤ to) (within : to ≤ product (inner_lengths header v))
      (fit : (ltb most_elements (to - from) || is_record_past header number) ≡ false) where
    abbrev parts : List Part
    parts = boxes (inner_lengths header v) from to

    post_of : (q : Post) → In (map (box_post k v number) parts) q → IsPostOf header k v 0 Put q
    post_of q i =
        let p = map_in (box_post k v number) parts q i in
        subst (IsPostOf header k v 0 Put) p.2 (record {
          var = refl;
          accepted = box_accepted header v number is (or_parts (ltb most_elements (to - from)) (is_record_past header number) fit).1 p.0
              (each_in (FitsPart (inner_lengths header v)) parts p.0 (boxes_fit (inner_lengths header v) from to grows within) p.1)
              (each_in IsSmall parts p.0 (boxes_small header number (inner_lengths header v) from to grows within fit) p.1);
          long = λ e. box_bytes_long v p.0;
        })

    boxes_right : Right header (fills k v number parts)
    boxes_right =
        let dims = dims_long header v is in
        let few = boxes_few (inner_lengths header v) from to grows within in
        let long = length-map parts (box_post k v number) in
        let most = few_dims header k v sound there in
        subst (AreFills header) (sym (posts_filled k v number parts)) (
          are_towards header k v 0 there sound Put (map (box_post k v number) parts) post_of (λ e.
              subst AreSeparate (sym (map_map (λ (q : Post). q.region) (box_post k v number) parts)) (separate_boxes number parts (boxes_once (inner_lengths header v) from to grows within))),
          omega (arith, long, few, most, dims),
        )

  record_right : (rank ranks : ℕ) → rank < ranks → Right header (looks.look_record header k number rank ranks v)
  record_right rank ranks less =
      let total = product (inner_lengths header v) in
      let from = share_begin total rank ranks in
      let to = share_begin total (rank + 1) ranks in
      outcome_has (Right header) (is_record header v) (ltb most_elements (to - from) || is_record_past header number) (fills k v number (boxes (inner_lengths header v) from to))
      (no_fills header) (no_fills header) (λ is fit. boxes_right is from to (share_grows total rank ranks less) (share_within total rank ranks less) fit)

module _ (header : Header) (number rank ranks : ℕ) (sound : is_sound header ≡ true) (less : rank < ranks) where
  var_right : (k : ℕ) (o : Option Var) → slice_get header.vars k ≡ o
      → Right header (elim o [ None ↦ looks.Refused code.ENotVar | Some v ↦ looks.look_record header k number rank ranks v ])
  var_right k None e = no_fills header
  var_right k (Some v) e = record_right header k v number sound e rank ranks less

  place_right : (o : Option ℕ) → Right header (elim o [
    | None ↦ looks.Refused code.ENotVar
    | Some k ↦ elim (slice_get header.vars k) [ None ↦ looks.Refused code.ENotVar | Some v ↦ looks.look_record header k number rank ranks v ]
  ])
  place_right None = no_fills header
  place_right (Some k) = var_right k (slice_get header.vars k) refl

  -- the posts of the call's look, and how many there are
  pub fill_is : (name : List ℕ) (l : Look) → as_look l ≡ look_fill header name number rank ranks → ArePuts header 0 (posts_of l) × (length (posts_of l) ≤ 65)
  fill_is name l e = subst (Right header) (sym e) (place_right (find_var header name))
