-- A record that all ranks filled reads its fill values.
use Rattle.whole_run_laws.proofs.Words.{◌≡◌, ℕ, zero, suc, ◌+◌, ◌*◌, ◌<◌, ◌≤◌, refl, sym, ◌∙◌, ap, subst, List, [], ◌∷◌, length, map, replicate, true, Option, Some, None, add-one, arith, mul-div_cancel, mul-le-mul_left, drop-append-add, take_all, flat_map-append, append-nil, length-map, map-append, take_at, flat_map, slice_get, zip, AllByRecursion, enumerate_from, range_with_len, each_weaker, map_map, div_grows, in_map, map_in, Header, Var, Post, Part, Offer, size_of, at, read, Counted, meeting, puts_of, Setting, told, box_indices, fill_bytes, share_begin, shifted, is_sound, inner_lengths, is_record, product, In, IsIndex, place, box_post, box_region, look_record, code_of_look, posts_of, cells, coordinates, elements, index_at, Cell, said_by, bytes_of, bytes_of_some, said_by_puts, coordinates_all, elements_past_header, boxes_right, length-coordinates, post_says, same_len, share_grows, share_within, shifted_is, completed, puts_met, AllFill, filling, share_boxes, posts_filled, IsOrApart, part, part_joined, part_none, nat_tests, common_steps}
use Rattle.nc_base.specs.declared.answer.Code.TheVariants as code
use Rattle.whole_run_laws.proofs.KeptLaws.{meeting_said}
use Rattle.whole_run_laws.proofs.FilledFile.{read_all, cell_of, fill_long, cells_apart, record_element, index_in, in_index, same_or_not, past_count, says_that}

-- ---- the shares of all ranks

share_rises : (total a b ranks : ℕ) → 0 < ranks → a ≤ b → share_begin total a ranks ≤ share_begin total b ranks
share_rises total a b ranks h k = div_grows (total * a) (total * b) ranks (omega arith) (mul-le-mul_left total k)

module _ (lengths : List ℕ) (ranks : ℕ) (some : 0 < ranks) where
  abbrev begins : ℕ → ℕ
  begins r = share_begin (product lengths) r ranks

  abbrev share : ℕ → List (List ℕ)
  share r = flat_map box_indices (share_boxes lengths r ranks)

  shares_from : (a n : ℕ) → a + n ≤ ranks → flat_map share (range_with_len a n) ≡ part (begins a) (begins (a + n)) (coordinates lengths)
  shares_from a zero h = grind (arith, nat_tests, part_none, share_rises)
  shares_from a (suc n) h = grind (arith, nat_tests, shares_from (a + 1) n (omega arith), boxes_right, share_grows, share_within, part_joined, share_rises)

pub shares_all : (lengths : List ℕ) (ranks : ℕ) → 0 < ranks → flat_map (λ r. flat_map box_indices (share_boxes lengths r ranks)) (range_with_len 0 ranks) ≡ coordinates lengths
shares_all lengths ranks some = grind (arith, nat_tests, length-coordinates, mul-div_cancel, shares_from, take_all)

pub record_puts : (header : Header) (k number r ranks : ℕ) (v : Var) → code_of_look (look_record header k number r ranks v) ≡ code.Ok
    → posts_of (look_record header k number r ranks v) ≡ filling header k v number ranks r
record_puts header k number r ranks v e = grind (arith, nat_tests, posts_filled)

-- ---- what the puts of a filling say

map_each : {A B : Type 0} (f g : A → B) (xs : List A) → AllByRecursion (λ x. f x ≡ g x) xs → map f xs ≡ map g xs
map_each f g [] h = refl
map_each f g (x ∷ xs) h = λ t. h.0 t ∷ map_each f g xs h.1 t

abbrev at_box : ℕ → Part → List ℕ → List ℕ
at_box number p c = index_at (number ∷ p.start) (replicate (length p.count + 1) 1) c

one_index : (number : ℕ) (p : Part) (c : List ℕ) → IsIndex p.count c → at_box number p (0 ∷ c) ≡ number ∷ shifted p.start c
one_index number p c h = grind (arith, nat_tests, same_len, add-one, shifted_is)

box_elements : (number : ℕ) (p : Part) → elements (box_region number p) ≡ map (λ c. number ∷ c) (box_indices p)
box_elements number p =
    let each = each_weaker (IsIndex p.count) (λ c. at_box number p (0 ∷ c) ≡ number ∷ shifted p.start c) (one_index number p) (coordinates p.count) (coordinates_all p.count) in
    let same = map_each (λ (c : List ℕ). at_box number p (0 ∷ c)) (λ (c : List ℕ). number ∷ shifted p.start c) (coordinates p.count) each in
    grind (arith, nat_tests, append-nil, map_map, same)

cells_repeat : (size : ℕ) (value xs : List ℕ) (a n : ℕ) → length value ≡ size → n ≡ length xs
    → cells size xs (flat_map (λ m. value) (range_with_len a n)) ≡ map (λ x. let cell : Cell = (x, value) in cell) xs
cells_repeat size value [] a n e h = refl
cells_repeat size value (x ∷ xs) a zero e h = absurd (omega arith)
cells_repeat size value (x ∷ xs) a (suc n) e h =
    grind (arith, nat_tests, cells_repeat size value xs (a + 1) n e (omega arith), take_at, drop-append-add, common_steps)

module _ (header : Header) (k number : ℕ) (v : Var) (there : slice_get header.vars k ≡ Some v) where
  abbrev cell_at : List ℕ → Cell
  cell_at c = cell_of header v (number ∷ c)

  box_said : (p : Part) → zip (bytes_of header (box_post k v number p)) (box_post k v number p).bytes ≡ said_by (map cell_at (box_indices p))
  box_said p =
      let post = box_post k v number p in
      let at = λ (i : List ℕ). place header v i in
      let paired = λ (x : ℕ). let cell : Cell = (x, fill_bytes v) in cell in
      let one : product (1 ∷ p.count) ≡ product p.count = omega arith in
      let long : product p.count ≡ length (map at (elements (box_region number p))) =
      grind (arith, nat_tests, length-map, length-coordinates (1 ∷ p.count), one) in
      ap (λ (o : Option Var). zip (bytes_of_some header o post) post.bytes) there
      ∙ sym (post_says header (Some v) post)
      ∙ ap (λ (cs : List Cell). said_by cs)
      (cells_repeat (size_of v.kind) (fill_bytes v) (map at (elements (box_region number p))) 0 (product p.count) (fill_long v) long
      ∙ map_map paired at (elements (box_region number p))
      ∙ ap (λ (es : List (List ℕ)). map (λ (i : List ℕ). paired (at i)) es) (box_elements number p)
      ∙ map_map (λ (i : List ℕ). paired (at i)) (λ (c : List ℕ). number ∷ c) (box_indices p))

  boxes_said : (r : ℕ) (parts : List Part) → said_by_puts header (map (λ (post : Post). (r, post)) (map (box_post k v number) parts)) ≡ said_by (map cell_at (flat_map box_indices parts))
  boxes_said r [] = refl
  boxes_said r (p ∷ parts) = grind (arith, nat_tests, boxes_said r parts, box_said, flat_map-append, map-append)

  all_said : (offers : List Offer) (a ranks : ℕ) → ((r : ℕ) (o : Offer) → slice_get offers r ≡ Some o → o.batch.puts ≡ filling header k v number ranks (a + r))
      → said_by_puts header (flat_map puts_of (enumerate_from a offers))
      ≡ said_by (map cell_at (flat_map (λ r. flat_map box_indices (share_boxes (inner_lengths header v) r ranks)) (range_with_len a (length offers))))
  all_said [] a ranks f = refl
  all_said (o ∷ offers) a ranks f =
      let lengths = inner_lengths header v in
      let share = λ (r : ℕ). flat_map box_indices (share_boxes lengths r ranks) in
      let own : said_by_puts header (puts_of (a, o)) ≡ said_by (map cell_at (share a)) =
      grind (arith, nat_tests, f 0 o refl, boxes_said a (share_boxes lengths a ranks)) in
      grind (arith, nat_tests, flat_map-append, own, all_said offers (a + 1) ranks (λ r p e. grind (arith, nat_tests, f (suc r) p e)), map-append)

-- ---- a filled record

pub record_reads : (s : Setting) (offers : List Offer) (c : Counted) (k number : ℕ) (v : Var) (index : List ℕ)
    → is_sound s.header ≡ true → slice_get s.header.vars k ≡ Some v → is_record s.header v ≡ true → AllFill s.header k v number offers
    → 0 < length offers → told s (puts_met offers) ≡ None → IsIndex (inner_lengths s.header v) index
    → read (meeting s offers c).0.file (place s.header v (number ∷ index)) (size_of v.kind) ≡ fill_bytes v
record_reads s offers c k number v index sound there of_records fill some none h =
    let header = s.header in
    let puts = puts_met offers in
    let lengths = inner_lengths header v in
    let cell = λ (i : List ℕ). cell_of header v (number ∷ i) in
    let mine = in_map cell (coordinates lengths) index (index_in lengths index h) in
    let past = elements_past_header header k v (number ∷ index) sound there (record_element header v number index of_records h) in
    let says : said_by_puts header (completed s puts) ≡ said_by (map cell (coordinates lengths)) =
    grind (arith, nat_tests, none, all_said header k number v there offers 0 (length offers) (λ r o e. grind (arith, nat_tests, fill r o e)), shares_all lengths (length offers) some) in
    let apart : (d : Cell) → In (map cell (coordinates lengths)) d → IsOrApart (cell index) d = λ d m.
    let j = map_in cell (coordinates lengths) d m in
    let mine = record_element header v number index of_records h in
    let other = record_element header v number j.0 of_records (in_index lengths j.0 j.1) in
    subst (IsOrApart (cell index)) j.2 (cells_apart header k k v v (number ∷ index) (number ∷ j.0) sound there there mine other (same_or_not k k (number ∷ index) (number ∷ j.0))) in
    read_all (meeting s offers c).0.file (fill_bytes v) (place header v (number ∷ index)) (size_of v.kind) (sym (fill_long v)) (λ i l.
    let said = meeting_said s offers c (place header v (number ∷ index) + i) (past_count header (place header v (number ∷ index) + i) (omega arith)) in
    grind (arith, nat_tests, said, says, says_that (cell index) i l (map cell (coordinates lengths)) mine apart))
