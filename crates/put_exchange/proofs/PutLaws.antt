-- A window that is put on a part: each byte is old or new, and once no window is ahead each byte that the entries say is new.
use Rattle.put_exchange.proofs.Words.{◌≡◌, ℕ, ◌+◌, ◌-◌, ◌<◌, ◌≤◌, ◌⊎◌, inl, inr, refl, sym, ◌∙◌, ap, subst, List, [], ◌∷◌, length, drop, Bool, true, false, Option, Some, None, arith, Result, length-take, ltb-true, ltb-false, nat_lt, IfSome, enumerate_from, no_none_some, Owned, after, BothTold, at, Cell, byte_or, said_at, said_by, write_cells, moved_down, IsFrom, IsWithin, IsOneValued, Says, cells_said, IsBetween, In, Source, cell_of, clips, IsPart, between_next, says_cases, says_left, says_right, cells_long, one_said, said_is, same_file, clips_from, clips_in, clips_within, moved_said, none_below, none_past, within_lowered, within_more, from_less, put_part, HasPut, cells_in, put_window, Told, HaveWindows, entry_cells, nat_tests, DiskGhosts, PutPlan, Extent, StepErr, IsLater, part_state, planned_turns, source_in, map, IsErr, err_not_ok, told_as}

-- ---- which entry says a byte

says_at : (p : ℕ) (b : List ℕ) (x v : ℕ) → Says (enumerate_from p b) x v → (p ≤ x) × (x < p + length b)
says_at p [] x v h = absurd h
says_at p (c ∷ b) x v (inl h) = let e = h.0 in (omega arith, omega arith)
says_at p (c ∷ b) x v (inr h) = let r = says_at (p + 1) b x v h in let low = r.0 in let high = r.1 in (omega arith, omega arith)

record IsSaidBy (source : Source) (list : List Owned) (x v : ℕ) : Type 0 where
  by : Owned
  inside : In list by
  says : Says (enumerate_from (cell_of source by).0 (cell_of source by).1) x v

says_by : (source : Source) (list : List Owned) (x v : ℕ) → Says (said_by (entry_cells source list)) x v → IsSaidBy source list x v
says_by source [] x v h = absurd h
says_by source (o ∷ list) x v h =
    grind (arith, nat_tests, says_by source list x v, says_cases (enumerate_from (cell_of source o).0 (cell_of source o).1) (said_by (entry_cells source list)) x v h)

by_says : (source : Source) (list : List Owned) (x v : ℕ) (o : Owned) → In list o → Says (enumerate_from (cell_of source o).0 (cell_of source o).1) x v
    → Says (said_by (entry_cells source list)) x v
by_says source [] x v o m h = absurd m
by_says source (p ∷ list) x v o (inl e) h = grind (arith, nat_tests, says_left)
by_says source (p ∷ list) x v o (inr m) h = grind (arith, nat_tests, by_says source list x v o m h, says_right)

said_inside : (source : Source) (list : List Owned) (x v : ℕ) (s : IsSaidBy source list x v) → (s.by.extent.at ≤ x) × (x < s.by.extent.at + s.by.extent.len)
said_inside source list x v s =
    grind (arith, nat_tests, says_at (cell_of source s.by).0 (cell_of source s.by).1 x v s.says, length-take s.by.extent.len (drop s.by.from (source s.by.rank s.by.slot)))

-- ---- the entries that are laid in a window

-- entries of the list, among them each that has a byte in the window
pub record ArePicked (list : List Owned) (t : Told) (picked : List Owned) : Type 0 where
  pub inside : (o : Owned) → In picked o → In list o
  pub all : (o : Owned) → In list o → o.extent.at < t.0 + t.1 → t.0 < o.extent.at + o.extent.len → In picked o

piece_says : (source : Source) (list picked : List Owned) (t : Told) (x v : ℕ) → ArePicked list t picked → Says (said_by (entry_cells source picked)) x v
    → Says (said_by (entry_cells source list)) x v
piece_says source list picked t x v p h = grind (arith, nat_tests, says_by source picked x v h, by_says)

entry_says : (source : Source) (list picked : List Owned) (t : Told) (x v : ℕ) → ArePicked list t picked → t.0 ≤ x → x < t.0 + t.1
    → Says (said_by (entry_cells source list)) x v → Says (said_by (entry_cells source picked)) x v
entry_says source list picked t x v p l k h = grind (arith, nat_tests, says_by source list x v h, said_inside source list x v (says_by source list x v h), by_says)

-- ---- cells seen from the part's begin

-- what is said of cells in a hull, seen from the part's begin, is said of them where they lie
hull_said : (cells : List Cell) (from lo hi y v : ℕ) → from ≤ lo → lo ≤ hi → said_at (said_by (moved_down from (clips lo hi cells))) y ≡ Some v
    → (lo ≤ y + from) × (y + from < hi) × (said_at (said_by cells) (y + from) ≡ Some v)
hull_said cells from lo hi y v low order h = by_front (nat_lt (y + from) lo) refl
  where
    place : (y + from) - from ≡ y
    place = omega arith

    least : IsFrom lo (clips lo hi cells)
    least = clips_from lo hi cells order

    here : said_at (said_by (clips lo hi cells)) (y + from) ≡ Some v
    here =
        sym (moved_said _ _ (y + from) (from_less _ lo _ low least) (omega arith))
        ∙ ap (λ (k : ℕ). said_at (said_by (moved_down from (clips lo hi cells))) k) place ∙ h

    by_back : (t : Bool) → nat_lt (y + from) hi ≡ t → lo ≤ y + from → (lo ≤ y + from) × (y + from < hi) × (said_at (said_by cells) (y + from) ≡ Some v)
    by_back true e l = (l, ltb-true _ _ e, sym (clips_in lo hi cells _ l (ltb-true _ _ e)) ∙ here)
    by_back false e l = no_none_some v (sym (none_past hi _ _ (clips_within lo hi cells order) (ltb-false _ _ e)) ∙ here)

    by_front : (t : Bool) → nat_lt (y + from) lo ≡ t → (lo ≤ y + from) × (y + from < hi) × (said_at (said_by cells) (y + from) ≡ Some v)
    by_front true e = no_none_some v (sym (none_below lo _ _ least (ltb-true _ _ e)) ∙ here)
    by_front false e = by_back (nat_lt (y + from) hi) refl (ltb-false _ _ e)

-- ... and the other way
said_hull : (cells : List Cell) (from lo hi y v : ℕ) → from ≤ lo → lo ≤ y + from → y + from < hi → said_at (said_by cells) (y + from) ≡ Some v
    → said_at (said_by (moved_down from (clips lo hi cells))) y ≡ Some v
said_hull cells from lo hi y v low l h e =
    grind (arith, nat_tests, from_less from lo (clips lo hi cells) low (clips_from lo hi cells (omega arith)), clips_in lo hi cells (y + from) l h, moved_said, clips_from)

-- the cells of a part that has so many bytes
abbrev part_cells : Source → List Owned → ℕ → ℕ → List Cell
part_cells source list from len = moved_down from (clips from (from + len) (entry_cells source list))

abbrev turn_cells : Source → List Owned → ℕ → Told → List Cell
turn_cells source picked from t = moved_down from (cells_in source t picked)

part_within : (source : Source) (list : List Owned) (from len : ℕ) → IsWithin (part_cells source list from len) len
part_within source list from len = grind (arith, nat_tests, within_lowered, clips_from, clips_within)

turn_within : (source : Source) (picked : List Owned) (from len : ℕ) (t : Told) → from ≤ t.0 → t.0 + t.1 ≤ from + len → IsWithin (turn_cells source picked from t) len
turn_within source picked from len t low high =
    let cells = cells_in source t picked in
    grind (arith, nat_tests, within_lowered from len cells, from_less from t.0 cells low, clips_from t.0 (t.0 + t.1) (entry_cells source picked), within_more cells (t.0 + t.1) (from + len) high, clips_within t.0 (t.0 + t.1) (entry_cells source picked))

-- what a window's cells say the part's cells say
turn_part : (source : Source) (list picked : List Owned) (from len : ℕ) (t : Told) → IsOneValued (said_by (entry_cells source list)) → ArePicked list t picked → from ≤ t.0 → t.0 + t.1 ≤ from + len
    → IsPart (said_by (part_cells source list from len)) (turn_cells source picked from t)
turn_part source list picked from len t one p low high y v h =
    let r = hull_said (entry_cells source picked) from t.0 (t.0 + t.1) y v low (omega arith) h in
    grind (arith, nat_tests, piece_says source list picked t (y + from) v p, said_is (said_by (entry_cells source picked)) (y + from) v r.2, said_hull (entry_cells source list) from from (from + len) y v, one_said (said_by (entry_cells source list)) one (y + from) v)

-- ... and in the window's hull the other way
part_turn : (source : Source) (list picked : List Owned) (from len : ℕ) (t : Told) (y v : ℕ) → IsOneValued (said_by (entry_cells source list)) → ArePicked list t picked → from ≤ t.0
    → t.0 ≤ y + from → y + from < t.0 + t.1 → said_at (said_by (part_cells source list from len)) y ≡ Some v
    → said_at (said_by (turn_cells source picked from t)) y ≡ Some v
part_turn source list picked from len t y v one p low l h e =
    let whole = (hull_said (entry_cells source list) from from (from + len) y v (omega arith) (omega arith) e).2 in
    grind (arith, nat_tests, entry_says source, said_is (said_by (entry_cells source list)) (y + from) v whole, said_hull (entry_cells source picked), one_said, piece_says source)

-- ---- a part on its way

-- each byte is old or new, and each that is not new yet lies in a hull ahead
pub record IsPutSoFar (source : Source) (list : List Owned) (from : ℕ) (ahead : List Told) (old now : List ℕ) : Type 0 where
  pub between : IsBetween old (put_part source list from old) now
  pub done : (x : ℕ) → (at now x ≡ at (put_part source list from old) x) ⊎ ((t : Told) × In ahead t × (t.0 ≤ x + from) × (x + from < t.0 + t.1))

-- a byte of which nothing is said stays, and one of which a value is said has it
unsaid : (cells : List Cell) (file : List ℕ) (x : ℕ) → said_at (said_by cells) x ≡ None → at (write_cells file cells) x ≡ at file x
unsaid cells file x e = cells_said cells file x ∙ ap (λ (o : Option ℕ). byte_or o (at file x)) e

said : (cells : List Cell) (file : List ℕ) (x v : ℕ) → said_at (said_by cells) x ≡ Some v → at (write_cells file cells) x ≡ v
said cells file x v e = cells_said cells file x ∙ ap (λ (o : Option ℕ). byte_or o (at file x)) e

nothing_put : (whole old : List ℕ) → IsBetween old whole old
nothing_put whole old = record { len = refl; each = λ x. inl refl }

put_begin : (source : Source) (list : List Owned) (from : ℕ) (ts : List Told) (old : List ℕ) → HaveWindows from (length old) list ts → IsPutSoFar source list from ts old old
put_begin source list from ts old windows = record { between = nothing_put (put_part source list from old) old; done = λ x. by_said x (said_at (said_by (part_cells source list from (length old))) x) refl }
  where
    by_said : (x : ℕ) (o : Option ℕ) → said_at (said_by (part_cells source list from (length old))) x ≡ o
        → (at old x ≡ at (put_part source list from old) x) ⊎ ((t : Told) × In ts t × (t.0 ≤ x + from) × (x + from < t.0 + t.1))
    by_said x None e = inl (sym (unsaid (part_cells source list from (length old)) old x e))
    by_said x (Some v) e =
        let r = hull_said (entry_cells source list) from from (from + length old) x v (omega arith) (omega arith) e in
        let s = says_by source list (x + from) v (said_is (said_by (entry_cells source list)) (x + from) v r.2) in
        let inside = said_inside source list (x + from) v s in
        inr (windows (x + from) r.0 r.1 (record { by = s.by; inside = s.inside; low = inside.0; high = inside.1 }))

-- cells that say nothing but what the whole says
between_more : (whole cells : List Cell) (old mid : List ℕ) → IsPart (said_by whole) cells → IsWithin cells (length mid) → IsBetween old (write_cells old whole) mid
    → IsBetween old (write_cells old whole) (write_cells mid cells)
between_more whole cells old mid part within b = grind (arith, nat_tests, cells_long cells mid within, unsaid, said)

window_between : (source : Source) (list picked : List Owned) (from : ℕ) (t : Told) (old mid : List ℕ) → IsOneValued (said_by (entry_cells source list)) → ArePicked list t picked
    → from ≤ t.0 → t.0 + t.1 ≤ from + length old → IsBetween old (put_part source list from old) mid → IsBetween old (put_part source list from old) (put_window source from t picked mid)
window_between source list picked from t old mid one p low high b =
    between_more (part_cells source list from (length old)) (turn_cells source picked from t) old mid (turn_part source list picked from (length old) t one p low high)
    (turn_within source picked from (length mid) t low (subst (λ (n : ℕ). t.0 + t.1 ≤ from + n) (sym b.len) high)) b

-- one window more
put_next : (source : Source) (list picked : List Owned) (from : ℕ) (t : Told) (ts : List Told) (old mid : List ℕ) → IsOneValued (said_by (entry_cells source list)) → ArePicked list t picked
    → from ≤ t.0 → t.0 + t.1 ≤ from + length old → IsPutSoFar source list from (t ∷ ts) old mid → IsPutSoFar source list from ts old (put_window source from t picked mid)
put_next source list picked from t ts old mid one p low high s = record {
  between = window_between source list picked from t old mid one p low high s.between;
  done = λ x. by_said x (said_at (said_by (turn_cells source picked from t)) x) refl;
}
  where
    -- nothing is said of a byte of the hull
    by_whole : (x : ℕ) (o : Option ℕ) → said_at (said_by (part_cells source list from (length old))) x ≡ o → said_at (said_by (turn_cells source picked from t)) x ≡ None
        → t.0 ≤ x + from → x + from < t.0 + t.1 → at mid x ≡ at (put_part source list from old) x
    by_whole x (Some v) e f l h = no_none_some v (sym f ∙ part_turn source list picked from (length old) t x v one p low l h e)
    by_whole x None e f l h = elim (s.between.each x) [ inl k ↦ k ∙ sym (unsaid (part_cells source list from (length old)) old x e) | inr k ↦ k ]

    by_said : (x : ℕ) (o : Option ℕ) → said_at (said_by (turn_cells source picked from t)) x ≡ o
        → (at (put_window source from t picked mid) x ≡ at (put_part source list from old) x) ⊎ ((u : Told) × In ts u × (u.0 ≤ x + from) × (x + from < u.0 + u.1))
    by_said x (Some v) e =
        inl (said (turn_cells source picked from t) mid x v e
        ∙ sym (said (part_cells source list from (length old)) old x v (turn_part source list picked from (length old) t one p low high x v e)))
    by_said x None e =
        let same : at (put_window source from t picked mid) x ≡ at mid x = unsaid (turn_cells source picked from t) mid x e in
        elim (s.done x) [
          | inl k ↦ inl (same ∙ k)
          | inr r ↦ elim r.1 [
            | inr m ↦ inr (r.0, m, r.2, r.3)
            | inl g ↦
                inl (same ∙ by_whole x (said_at (said_by (part_cells source list from (length old))) x) refl e
                (subst (λ (w : Told). w.0 ≤ x + from) (sym g) r.2) (subst (λ (w : Told). x + from < w.0 + w.1) (sym g) r.3))
          ]
        ]

put_end : (source : Source) (list : List Owned) (from : ℕ) (old now : List ℕ) → IsPutSoFar source list from [] old now → now ≡ put_part source list from old
put_end source list from old now s = grind (arith, nat_tests, cells_long _ old (part_within source list from (length old)), same_file, part_within)

-- ---- the same of a part that may tell its bytes

pub told_begin : (source : Source) (list : List Owned) (from len : ℕ) (ts : List Told) (held : Option (List ℕ)) → IfSome held (λ file. length file ≡ len) → HaveWindows from len list ts
    → BothTold (λ old now. IsPutSoFar source list from ts old now) held held
told_begin source list from len ts None told windows = refl
told_begin source list from len ts (Some old) told windows = grind (arith, nat_tests, put_begin source list from ts old)

pub told_nothing : (held : Option (List ℕ)) (whole : List ℕ → List ℕ) → BothTold (λ old left. IsBetween old (whole old) left) held held
told_nothing None whole = refl
told_nothing (Some old) whole = (old, refl, nothing_put (whole old) old)

pub told_kept : (held now : Option (List ℕ)) (whole : List ℕ → List ℕ) → now ≡ held → BothTold (λ old left. IsBetween old (whole old) left) held now
told_kept held now whole e = subst (λ (m : Option (List ℕ)). BothTold (λ old left. IsBetween old (whole old) left) held m) (sym e) (told_nothing held whole)

-- a window that was put in whole
pub told_whole : (source : Source) (picked : List Owned) (from len : ℕ) (t : Told) (mid now : Option (List ℕ)) → IfSome mid (λ file. length file ≡ len) → from ≤ t.0 → t.0 + t.1 ≤ from + len
    → now ≡ after (put_window source from t picked) mid → BothTold (λ old left. IsBetween old (put_window source from t picked old) left) mid now
told_whole source picked from len t mid now told low high e = grind (arith, nat_tests, cells_long, turn_within)

pub told_next : (source : Source) (list picked : List Owned) (from len : ℕ) (t : Told) (ts : List Told) (held mid now : Option (List ℕ)) → IfSome held (λ file. length file ≡ len)
    → IsOneValued (said_by (map (λ o. cell_of source o) list)) → ArePicked list t picked → from ≤ t.0 → t.0 + t.1 ≤ from + len
    → BothTold (λ old now. IsPutSoFar source list from (t ∷ ts) old now) held mid → now ≡ after (put_window source from t picked) mid
    → BothTold (λ old now. IsPutSoFar source list from ts old now) held now
told_next source list picked from len t ts None mid now told one p low high b e = e ∙ ap (after (put_window source from t picked)) b
told_next source list picked from len t ts (Some old) mid now told one p low high b e =
    grind (arith, nat_tests, put_next source list picked from t ts old b.0 one p low)

pub told_more : (source : Source) (list picked : List Owned) (from len : ℕ) (t : Told) (held mid now : Option (List ℕ)) → IfSome held (λ file. length file ≡ len)
    → IsOneValued (said_by (map (λ o. cell_of source o) list)) → ArePicked list t picked → from ≤ t.0 → t.0 + t.1 ≤ from + len
    → BothTold (λ old left. IsBetween old (put_part source list from old) left) held mid
    → BothTold (λ old left. IsBetween old (put_window source from t picked old) left) mid now
    → BothTold (λ old left. IsBetween old (put_part source list from old) left) held now
told_more source list picked from len t None mid now told one p low high b c = grind (arith, nat_tests)
told_more source list picked from len t (Some old) mid now told one p low high b c =
    let d = subst (λ (m : Option (List ℕ)). BothTold (λ old left. IsBetween old (put_window source from t picked old) left) m now) b.1 c in (
      d.0,
      d.1,
      between_next _ _ _ _ _ b.2 (window_between source _ _ _ t _ _ one p low (subst (λ (n : ℕ). t.0 + t.1 ≤ from + n) (sym told) high) b.2) d.2,
    )

pub told_between : (source : Source) (list : List Owned) (from : ℕ) (ts : List Told) (held now : Option (List ℕ)) → BothTold (λ old now. IsPutSoFar source list from ts old now) held now
    → BothTold (λ old left. IsBetween old (put_part source list from old) left) held now
told_between source list from ts held now b = told_as (λ old left. IsPutSoFar source list from ts old left) (λ old left. IsBetween old (put_part source list from old) left) held now (λ old left s. s.between) b

pub told_end : (source : Source) (list : List Owned) (from : ℕ) (held now : Option (List ℕ)) → BothTold (λ old now. IsPutSoFar source list from [] old now) held now
    → now ≡ after (put_part source list from) held
told_end source list from None now b = b
told_end source list from (Some old) now b = b.1 ∙ ap Some (put_end source list from old b.0 b.2)

-- ---- puts that were done, or cut off by what came later

-- those of a plan on a part, beside its domain
abbrev pub PutBy : {D T : Type 0} → DiskGhosts D → PutPlan → Result T StepErr → D × Extent → D → Type 0
PutBy disk plan end p new = HasPut (source_in plan) plan.list.now (planned_turns plan p.1) (part_state disk p.0) (part_state disk new) end

pub put_later : {D T : Type 0} (disk : DiskGhosts D) (plan : PutPlan) → IsLater {T = T} (PutBy disk plan)
put_later disk plan end came p new ok h = grind (arith, nat_tests)

-- nothing was done
pub put_kept : {D : Type 0} (disk : DiskGhosts D) (plan : PutPlan) (end : Result (Unit {0}) StepErr) → IsErr end → (p : D × Extent) → PutBy disk plan end p p.0
put_kept disk plan end cut p = grind (arith, nat_tests, err_not_ok, told_nothing, PutBy)
