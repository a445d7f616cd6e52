-- What is left of a cover from a place on, by how many extents begin before the place.
use Rattle.file_domains.proofs.Words.{◌≡◌, ℕ, zero, suc, ◌+◌, ◌-◌, ◌<◌, ◌≤◌, refl, sym, ◌∙◌, inr, List, [], ◌∷◌, length, take, drop, get_or, length-drop, ◌^◌, true, false, min, Some, slice_get, arith, take_all, get_or_default, filter, nat_le, ◌==◌, range_with_len, AllWithin, IsPartitionedBy, same_Some, slice_get-get_or, at_in, no_none_some, Extent, In, EndBelow, below, IsCover, end_after, is_single, first_at, spans, range_above_none, IsLeft, filter-append, nat_tests, cases_lt}
pub use Rattle.overlay_laws.proofs.CoverLaws.{long_enough}

pub in_dropped : {X : Type 0} (k : ℕ) (xs : List X) (e : X) → In (drop k xs) e → In xs e
in_dropped (suc k) (x ∷ xs) e h = inr (in_dropped k xs e h)
in_dropped k xs e h = h

pub ends_before : (cover : List Extent) (i j : ℕ) (d e : Extent) → IsCover cover → i < j → slice_get cover i ≡ Some d → slice_get cover j ≡ Some e → d.at + d.len < e.at
ends_before [] i j d e h l f g = no_none_some d f
ends_before (c ∷ cover) i j d e h l f g = grind (arith, nat_tests, at_in cover (j - 1) e, ends_before cover (i - 1) (j - 1) d e h.2)

-- extents of a cover rise
pub ends_rise : (cover : List Extent) (i j : ℕ) (d e : Extent) → IsCover cover → i ≤ j → slice_get cover i ≡ Some d → slice_get cover j ≡ Some e
    → (d.at ≤ e.at) × (d.at + d.len ≤ e.at + e.len)
ends_rise cover i j d e h l f g = grind (arith, nat_tests, cases_lt i j, ends_before cover i j d e h, same_Some)

pub cover_dropped : (k : ℕ) (cover : List Extent) → IsCover cover → IsCover (drop k cover)
cover_dropped (suc k) (e ∷ cover) h = cover_dropped k cover h.2
cover_dropped k cover h = h

pub dropped_bytes : (k place : ℕ) (cover : List Extent) → ((i : ℕ) (e : Extent) → i < k → slice_get cover i ≡ Some e → e.at + e.len ≤ place)
    → filter (λ y. nat_le place y) (spans (drop k cover)) ≡ filter (λ y. nat_le place y) (spans cover)
dropped_bytes (suc k) place (e ∷ cover) h =
    dropped_bytes k place cover (λ i d l g. h (suc i) d (omega arith) g)
    ∙ sym (grind (arith, nat_tests, filter-append (λ y. nat_le place y) (range_with_len e.at e.len) (spans cover), range_above_none place e.at e.len, h zero e))
dropped_bytes k place cover h = refl

pub dropped_left : (k place : ℕ) (cover : List Extent) → IsCover cover → ((e : Extent) → slice_get cover k ≡ Some e → place < e.at + e.len)
    → (e : Extent) → In (drop k cover) e → place < e.at + e.len
dropped_left (suc k) place (d ∷ cover) h g e m = dropped_left k place cover h.2 g e m
dropped_left zero place (d ∷ cover) h g e m = grind (arith, nat_tests, g d, h.1 e)
dropped_left k place cover h g e m = absurd (in_dropped k cover e m)

pub whole_tail : {X : Type 0} (k : ℕ) (xs : List X) → take (length xs - k) (drop k xs) ≡ drop k xs
whole_tail k xs = take_all (length xs - k) (drop k xs) (omega (arith, length-drop k xs))

-- the extents from number k on, of which the first is not past and those before it are
dropped : (k place : ℕ) (cover : List Extent) → IsCover cover → EndBelow (2 ^ 62) cover
    → ((i : ℕ) (e : Extent) → i < k → slice_get cover i ≡ Some e → e.at + e.len ≤ place)
    → ((e : Extent) → slice_get cover k ≡ Some e → place < e.at + e.len) → IsLeft place cover (drop k cover)
dropped k place cover h ends before after =
    grind (arith, nat_tests, dropped_bytes k place cover before, dropped_left k place cover h after, cover_dropped k cover h, in_dropped k cover)

-- the last extent in front is not past
pub left_from_last : (count place : ℕ) (last : Extent) (cover : List Extent) → IsCover cover → EndBelow (2 ^ 62) cover → 0 < count
    → slice_get cover (count - 1) ≡ Some last → place < last.at + last.len
    → ((i : ℕ) (e : Extent) → i < count → slice_get cover i ≡ Some e → e.at ≤ place)
    → IsLeft place cover (drop (count - 1) cover)
left_from_last count place last cover h ends some at_last long before = grind (arith, nat_tests, dropped (count - 1) place cover h ends, ends_before cover)

-- the last extent in front is past, or there is none
pub left_from_next : (count place : ℕ) (cover : List Extent) → IsCover cover → EndBelow (2 ^ 62) cover
    → ((e : Extent) → 0 < count → slice_get cover (count - 1) ≡ Some e → e.at + e.len ≤ place)
    → count ≤ length cover
    → ((e : Extent) → slice_get cover count ≡ Some e → place ≤ e.at)
    → IsLeft place cover (drop count cover)
left_from_next count place cover h ends last bound after =
    dropped count place cover h ends
    (λ i e l g. grind (arith, nat_tests, ends_rise, slice_get-get_or cover (count - 1) (record { at = 0; len = 0 })))
    (λ e g. grind (arith, after e g, long_enough cover e h (at_in cover count e g)))

pub cover_rises : (cover : List Extent) (place i j : ℕ) (d : Extent) → IsCover cover → i ≤ j → j < length cover
    → nat_le (get_or cover j d).at place ≡ true → nat_le (get_or cover i d).at place ≡ true
cover_rises cover place i j d h l room e = grind (arith, nat_tests, ends_rise cover i j (get_or cover i d) (get_or cover j d) h l, slice_get-get_or)

pub get_is : {X : Type 0} (xs : List X) (i : ℕ) (e : X) → slice_get xs i ≡ Some e → (i < length xs) × (get_or xs i e ≡ e)
get_is [] i e h = no_none_some e h
get_is (x ∷ xs) i e h = grind (arith, nat_tests, get_is xs (i - 1) e, same_Some x e)

pub front_low : (cover : List Extent) (place k : ℕ) → AllWithin (λ e. nat_le e.at place ≡ true) cover 0 k
    → (i : ℕ) (e : Extent) → i < k → slice_get cover i ≡ Some e → e.at ≤ place
front_low cover place k h i e l g = grind (arith, nat_tests, get_is cover i e g)

pub front_high : (cover : List Extent) (place k : ℕ) → AllWithin (λ e. nat_le e.at place ≡ false) cover k (length cover)
    → (e : Extent) → slice_get cover k ≡ Some e → place ≤ e.at
front_high cover place k h e g = grind (arith, nat_tests, get_is cover k e g)

-- a half below a place where an extent begins by then, and a half from a place on where one does not
pub half_front : (cover : List Extent) (place middle i : ℕ) (none d : Extent) → IsPartitionedBy (λ e. nat_le e.at place) cover → middle < length cover
    → (get_or cover middle none).at ≤ place → i ≤ middle → nat_le (get_or cover i d).at place ≡ true
half_front cover place middle i none d h room e l = grind (arith, nat_tests, h i middle d l room, get_or_default cover middle none d room)

pub half_left : (cover : List Extent) (place middle i : ℕ) (none d : Extent) → IsPartitionedBy (λ e. nat_le e.at place) cover → i < length cover
    → place < (get_or cover middle none).at → middle ≤ i → nat_le (get_or cover i d).at place ≡ false
half_left cover place middle i none d h room e l = grind (arith, nat_tests, h middle i none l room, get_or_default)

-- ---- the hull of the extents of which k + 1 begin before a place

none_below : (m : ℕ) (cover : List Extent) → ((e : Extent) → slice_get cover 0 ≡ Some e → m ≤ e.at) → below m cover ≡ []
none_below m [] h = refl
none_below m (e ∷ cover) h = grind (arith, nat_tests, h e refl)

-- where it ends, and whether it is one extent
pub counted_below : (m k : ℕ) (e last : Extent) (cover : List Extent) → IsCover (e ∷ cover) → e.at < m → slice_get (e ∷ cover) k ≡ Some last → last.at < m
    → ((d : Extent) → slice_get cover k ≡ Some d → m ≤ d.at)
    → (end_after 0 (below m (e ∷ cover)) ≡ min (last.at + last.len) m) × (is_single (below m (e ∷ cover)) ≡ (k == 0)) × (first_at (below m (e ∷ cover)) ≡ e.at)
counted_below m zero e last cover h l g low after = grind (arith, nat_tests, none_below m cover after, same_Some e last g)
counted_below m (suc k) e last [] h l g low after = no_none_some last g
counted_below m (suc k) e last (f ∷ cover) h l g low after = grind (arith, nat_tests, h.1 f, ends_rise (f ∷ cover) 0 k f last h.2, counted_below m k f last cover h.2)
