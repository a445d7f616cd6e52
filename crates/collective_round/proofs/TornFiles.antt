-- A torn file: each byte outside of the count's field that is old or new, and what a longer or a later write leaves of it.
use Rattle.collective_round.proofs.Words.{each_in, and_first, and_second, no_false, or_first_false, or_second_false, leb-true, or_right, ◌≡◌, ℕ, ◌+◌, ◌<◌, ◌≤◌, refl, ◌∙◌, inl, ◌⊎◌, List, [], length, true, false, max, Option, Some, None, arith, common_steps, map_in, nat_tests, ◌==◌, slice_get, list_any, range_with_len, byte_len, Header, Var, Post, Direction, PartlyWritten, size_of, at, longer, Setting, end_for, after_puts, count, count_width, header_len, is_sound, place, IsElementBelow, needed_by, records_of, with_records, check_some, places, elements, Puts, bytes_of, bytes_of_some, covered, IsTorn, accepted_elements, elements_past_header, at-longer, at-written_before, at-written_after, longer_long, canon_len, IsBetween, In, any_in, flat_in, range_low, ArePuts, written_grows, after_long, ltb-true, ltb-false}
use Rattle.nc_base.specs.declared.answer.Code.TheVariants as code
use Rattle.serial_spec.proofs.KeepLaws.{after_keeps, count_long as length-count}

-- ---- the field of the count

-- of how many bytes it is
abbrev pub field_of : Header → ℕ
field_of header = byte_len (count_width header.version)

field_before : (header : Header) → 4 + field_of header ≤ header_len header
field_before header = let whole = canon_len header in omega arith

-- each byte of the puts stands after it
pub covered_past : (header : Header) (puts : Puts) (x : ℕ) → is_sound header ≡ true → ArePuts header puts → In (covered header puts) x → 4 + field_of header ≤ x
covered_past header puts x sound are m =
    let f = flat_in (λ (p : ℕ × Post). bytes_of header p.1) puts x m in
    let a = (are f.0 f.1).accepted in
    omega (arith, by_var f.0.1 a.0 a.1 (slice_get header.vars f.0.1.var) refl a.2 f.2, field_before header)
  where
    by_var : (post : Post) (known : ℕ) (way : Direction) (o : Option Var) → slice_get header.vars post.var ≡ o → check_some header o post.region known way ≡ code.Ok
        → In (bytes_of_some header o post) x → header_len header ≤ x
    by_var post known way None e ok k = absurd k
    by_var post known way (Some v) e ok k =
        let g = flat_in (λ (y : ℕ). range_with_len y (size_of v.kind)) (places header v post.region) x k in
        let i = map_in (λ (i : List ℕ). place header v i) (elements post.region) g.0 g.1 in
        let is = each_in (IsElementBelow header v (records_of header v post.region)) (elements post.region) i.0 (accepted_elements header post.var v post.region known way sound e ok) i.1 in
        let same : place header v i.0 ≡ g.0 = i.2 in
        omega (arith, elements_past_header header post.var v i.0 sound e is.0, range_low g.0 (size_of v.kind) x g.2)

-- ---- a torn file

pub torn_by : (bytes : List ℕ) (field : ℕ) (old new left : List ℕ) → length old ≤ length left → length left ≤ length new
    → ((x : ℕ) → list_any (λ y. y == x) bytes ≡ true → (at left x ≡ at old x) ⊎ (at left x ≡ at new x))
    → ((x : ℕ) → list_any (λ y. y == x) bytes ≡ false → 4 ≤ x → x < 4 + field → (at left x ≡ at old x) ⊎ (at left x ≡ at new x))
    → ((x : ℕ) → list_any (λ y. y == x) bytes ≡ false → (x < 4) ⊎ (4 + field ≤ x) → at left x ≡ at old x)
    → IsTorn bytes field old new left
torn_by bytes field old new left long short inside beside outside =
    grind (arith, nat_tests, or_first_false, no_false, ltb-false, or_second_false, leb-true, and_first, ltb-true, and_second)

-- nothing was written
pub torn_still : (bytes : List ℕ) (field : ℕ) (old new : List ℕ) → length old ≤ length new → IsTorn bytes field old new old
torn_still bytes field old new h = record { long = omega arith; short = h; changed = λ x l k. inl refl; kept = λ x l k. refl }

-- some windows of the puts were written over the file that was made longer
pub torn_laid : (s : Setting) (puts : Puts) (n : ℕ) (old left : List ℕ) → n ≡ needed_by s.header puts
    → IsBetween (longer old (end_for s n)) (after_puts s puts None old) left → IsTorn (covered s.header puts) 0 old (after_puts s puts None old) left
torn_laid s puts n old left is b =
    let made : length left ≡ max (length old) (end_for s n) = b.len ∙ longer_long old (end_for s n) in
    grind (arith, nat_tests, after_long s puts old, torn_by (covered s.header puts) 0 old (after_puts s puts None old) left, at-longer old (end_for s n), after_keeps s puts None old, b.each)

-- a torn file, byte by byte, past its end too
pub record AreSides (bytes : List ℕ) (field : ℕ) (old new left : List ℕ) : Type 0 where
  pub inside : (x : ℕ) → list_any (λ y. y == x) bytes ≡ true → (at left x ≡ at old x) ⊎ (at left x ≡ at new x)
  pub beside : (x : ℕ) → 4 ≤ x → x < 4 + field → (at left x ≡ at old x) ⊎ (at left x ≡ at new x)
  pub outside : (x : ℕ) → list_any (λ y. y == x) bytes ≡ false → (x < 4) ⊎ (4 + field ≤ x) → at left x ≡ at old x

past_end : (xs : List ℕ) (x : ℕ) → length xs ≤ x → at xs x ≡ 0
past_end xs x h = grind (arith, common_steps)

pub torn_sides : (bytes : List ℕ) (field : ℕ) (old new left : List ℕ) → IsTorn bytes field old new left → AreSides bytes field old new left
torn_sides bytes field old new left t = grind (arith, nat_tests, or_right, leb-true, ltb-false, past_end, ltb-true)

-- as bytes of the field may change that did not
pub torn_wider : (bytes : List ℕ) (field : ℕ) (old new left : List ℕ) → IsTorn bytes 0 old new left → IsTorn bytes field old new left
torn_wider bytes field old new left t = grind (arith, nat_tests, torn_sides bytes 0 old new left t, torn_by, ltb-true, ltb-false)

pub counted_past : (version n : ℕ) (file : List ℕ) (x : ℕ) → 4 + byte_len (count_width version) ≤ x → at (with_records version file n) x ≡ at file x
counted_past version n file x h = let l = length-count version n in at-written_after file (count version n) 4 x (omega arith)

-- the puts were cut off, where after them the count would have been written
pub torn_counted : (version n : ℕ) (bytes : List ℕ) (old whole left : List ℕ) → ((x : ℕ) → In bytes x → 4 + byte_len (count_width version) ≤ x)
    → IsTorn bytes 0 old whole left → IsTorn bytes (byte_len (count_width version)) old (with_records version whole n) left
torn_counted version n bytes old whole left past t =
    let w = torn_wider bytes (byte_len (count_width version)) old whole left t in
    grind (arith, nat_tests, torn_sides bytes (byte_len (count_width version)) old whole left w, torn_sides bytes 0 old whole left t, torn_by bytes (byte_len (count_width version)) old (with_records version whole n) left t.long, written_grows whole 4 (count version n), counted_past version n whole, any_in bytes, t.short)

-- the count was cut off, after the puts were written
pub torn_after : (bytes : List ℕ) (field : ℕ) (old whole new left : List ℕ) → length old ≤ length whole
    → ((x : ℕ) → list_any (λ y. y == x) bytes ≡ false → at whole x ≡ at old x) → ((x : ℕ) → In bytes x → 4 + field ≤ x)
    → ((x : ℕ) → 4 + field ≤ x → at new x ≡ at whole x) → IsTorn [] field whole new left → IsTorn bytes field old new left
torn_after bytes field old whole new left grows keeps past agree t =
    grind (arith, nat_tests, torn_sides [] field whole new left t, torn_by bytes field old new left, any_in bytes)

-- the write of the count itself
pub torn_stored : (version n : ℕ) (old left : List ℕ) → PartlyWritten 4 (count version n) old left
    → IsTorn [] (byte_len (count_width version)) old (with_records version old n) left
torn_stored version n old left p =
    let g = written_grows old 4 (count version n) in
    grind (arith, nat_tests, at (with_records version old n), at old, at-written_before old (count version n) 4, counted_past version n old, torn_by [] (byte_len (count_width version)) old (with_records version old n) left, p.len, p.each)
