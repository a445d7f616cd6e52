-- What a relocation makes of a file, byte by byte.
use Rattle.redef_mover.proofs.Words.{◌≡◌, ℕ, ◌+◌, ◌-◌, ◌<◌, ◌≤◌, max, ◌⊎◌, inl, inr, refl, sym, ◌∙◌, ap, subst, List, [], ◌∷◌, ◌++◌, length, take, drop, Bool, true, false, cond, arith, filter, not, ◌==◌, reverse, fold-append, reverse-append, take_at, Header, Slab, slabs, at, longer, canon, header_len, at-longer, at-written_after, length-written_inside, written-inside, longer_long, In, changes, gaps, rising, IsRisen, new_end, IsBeside, IsMoved, IsOutside, all_cleared, all_moved, cleared, slab_moved, AreSpaced, carried, written, IsCarriable, nat_tests, eqb-true, fold}
use Rattle.redef_mover.proofs.ClearLaws.{cleared_after, cleared_before, cleared_inside, cleared_long, spaced_low}
use Rattle.redef_mover.proofs.SlabLaws.{moved_after, moved_before, moved_inside, moved_long, moved_nowhere}

-- ---- where slabs lie

risen_spaced : (a b end : ℕ) (ss : List Slab) → IsRisen a b ss → b ≤ end → ((s : Slab) → In ss s → s.to + s.len ≤ end) → AreSpaced b end ss
risen_spaced a b end [] h l inside = l
risen_spaced a b end (s ∷ ss) h l inside =
    (h.2, risen_spaced (s.from + s.len) (s.to + s.len) end ss h.4 (inside s (inl refl)) (λ t i. inside t (inr i)))

pub spaced_from : (b end : ℕ) (ss : List Slab) (s : Slab) → AreSpaced b end ss → In ss s → b ≤ s.to
spaced_from b end [] s h i = absurd i
spaced_from b end (t ∷ ss) s h (inl e) = subst (λ (u : Slab). b ≤ u.to) e h.0
spaced_from b end (t ∷ ss) s h (inr i) = let low : b ≤ t.to = h.0 in let rest = spaced_from (t.to + t.len) end ss s h.1 i in omega arith

-- ---- moves, the highest slab first

abbrev up_moved : List ℕ → List Slab → List ℕ
up_moved file [] = file
up_moved file (s ∷ ss) = slab_moved (up_moved file ss) s

up_long : (file : List ℕ) (b end : ℕ) (ss : List Slab) → AreSpaced b end ss → end ≤ length file → length (up_moved file ss) ≡ length file
up_long file b end [] h l = refl
up_long file b end (s ∷ ss) h l = grind (arith, nat_tests, up_long file (s.to + s.len) end ss h.1 l, spaced_low, moved_long, up_moved)

-- a slab that stays needs no move
one_moved : (file : List ℕ) (s : Slab) (t : Bool) → (s.from == s.to) ≡ t → s.to + s.len ≤ length file
    → fold slab_moved file (cond (not t) (s ∷ []) []) ≡ slab_moved file s
one_moved file s true e h = sym (moved_nowhere file s (eqb-true _ _ e) h)
one_moved file s false e h = refl

filter_last : {A : Type 0} (p : A → Bool) (xs : List A) (x : A) → filter p (xs ++ x ∷ []) ≡ filter p xs ++ cond (p x) (x ∷ []) []
filter_last p [] x = refl
filter_last p (y ∷ xs) x = grind (arith, nat_tests, filter_last p xs x)

all_up : (file : List ℕ) (b end : ℕ) (ss : List Slab) → AreSpaced b end ss → end ≤ length file → all_moved file (reverse ss) ≡ up_moved file ss
all_up file b end [] h l = refl
all_up file b end (s ∷ ss) h l =
    let rest = up_long file (s.to + s.len) end ss h.1 l in
    let inside = spaced_low (s.to + s.len) end ss h.1 in
    ap (λ xs. all_moved file xs) (reverse-append (s ∷ []) ss)
    ∙ ap (λ xs. fold slab_moved file xs) (filter_last changes (reverse ss) s)
    ∙ fold-append slab_moved file (filter changes (reverse ss)) (cond (changes s) (s ∷ []) [])
    ∙ ap (λ (f : List ℕ). fold slab_moved f (cond (changes s) (s ∷ []) [])) (all_up file (s.to + s.len) end ss h.1 l)
    ∙ one_moved (up_moved file ss) s (s.from == s.to) refl (omega arith)

up_before : (file : List ℕ) (b end : ℕ) (ss : List Slab) (x : ℕ) → AreSpaced b end ss → x < b → at (up_moved file ss) x ≡ at file x
up_before file b end [] x h l = refl
up_before file b end (s ∷ ss) x h l =
    grind (arith, nat_tests, up_before file (s.to + s.len) end ss x h.1 (omega arith), moved_before (up_moved file ss) s x (omega arith))

up_after : (file : List ℕ) (b end : ℕ) (ss : List Slab) (x : ℕ) → AreSpaced b end ss → end ≤ x → at (up_moved file ss) x ≡ at file x
up_after file b end [] x h l = refl
up_after file b end (s ∷ ss) x h l = grind (arith, nat_tests, spaced_low, moved_after, up_after file (s.to + s.len) end ss x h.1 l, up_moved)

-- the bytes of a slab are moved before another slab takes their place
up_inside : (file : List ℕ) (a b end : ℕ) (ss : List Slab) (s : Slab) (d : ℕ) → IsRisen a b ss → AreSpaced b end ss → In ss s → d < s.len
    → at (up_moved file ss) (s.to + d) ≡ at file (s.from + d)
up_inside file a b end [] s d r h i l = absurd i
up_inside file a b end (t ∷ ss) s d r h (inl e) l = grind (arith, nat_tests, at, moved_inside, up_before, r.3, up_moved)
up_inside file a b end (t ∷ ss) s d r h (inr i) l =
    let low = spaced_from (t.to + t.len) end ss s h.1 i in
    grind (arith, nat_tests, moved_after, up_inside file (t.from + t.len) (t.to + t.len) end ss s d r.4 h.1 i l)

-- ---- zeros in the gaps

pub gap_low : (b end : ℕ) (ss : List Slab) (g : ℕ × ℕ) → AreSpaced b end ss → In (gaps b end ss) g → b ≤ g.0
gap_low b end [] g h (inl e) = subst (λ (f : ℕ × ℕ). b ≤ f.0) e (omega arith)
gap_low b end [] g h (inr i) = absurd i
gap_low b end (s ∷ ss) g h (inl e) = subst (λ (f : ℕ × ℕ). b ≤ f.0) e (omega arith)
gap_low b end (s ∷ ss) g h (inr i) = let low : b ≤ s.to = h.0 in let rest = gap_low (s.to + s.len) end ss g h.1 i in omega arith

pub gap_high : (b end : ℕ) (ss : List Slab) (g : ℕ × ℕ) → AreSpaced b end ss → In (gaps b end ss) g → g.0 + g.1 ≤ end
gap_high b end [] g h (inl e) = subst (λ (f : ℕ × ℕ). f.0 + f.1 ≤ end) e (let low : b ≤ end = h in omega arith)
gap_high b end [] g h (inr i) = absurd i
gap_high b end (s ∷ ss) g h (inl e) = grind (arith, nat_tests, spaced_low (s.to + s.len) end ss h.1)
gap_high b end (s ∷ ss) g h (inr i) = gap_high (s.to + s.len) end ss g h.1 i

-- a gap is beside each slab
pub gap_beside : (b end : ℕ) (ss : List Slab) (s : Slab) (g : ℕ × ℕ) (x : ℕ) → AreSpaced b end ss → In ss s → In (gaps b end ss) g → s.to ≤ x → x < s.to + s.len → IsOutside g.0 g.1 x
gap_beside b end [] s g x h i j l k = absurd i
gap_beside b end (t ∷ ss) s g x h i (inl e) l k = grind (arith, nat_tests, spaced_from t.to end (t ∷ ss) s (omega arith, h.1) i)
gap_beside b end (t ∷ ss) s g x h (inl e) (inr j) l k = grind (arith, nat_tests, gap_low (t.to + t.len) end ss g h.1 j)
gap_beside b end (t ∷ ss) s g x h (inr i) (inr j) l k = gap_beside (t.to + t.len) end ss s g x h.1 i j l k

-- what is in no gap stays
cleared_beside : (file : List ℕ) (gs : List (ℕ × ℕ)) (x : ℕ) → IsBeside gs x → at (all_cleared file gs) x ≡ at file x
cleared_beside file [] x h = refl
cleared_beside file (g ∷ gs) x h =
    let one : at (cleared file g) x ≡ at file x = elim (h g (inl refl)) [ inl l ↦ cleared_before file g.0 g.1 x l | inr l ↦ cleared_after file g.0 g.1 x l ] in
    cleared_beside (cleared file g) gs x (λ f i. h f (inr i)) ∙ one

cleared_whole : (file : List ℕ) (gs : List (ℕ × ℕ)) → ((g : ℕ × ℕ) → In gs g → g.0 + g.1 ≤ length file) → length (all_cleared file gs) ≡ length file
cleared_whole file [] h = refl
cleared_whole file (g ∷ gs) h =
    let one : length (cleared file g) ≡ length file = cleared_long file g.0 g.1 (h g (inl refl)) in
    cleared_whole (cleared file g) gs (λ f i. omega (arith, one, h f (inr i))) ∙ one

bare_zero : (file : List ℕ) (b end : ℕ) (ss : List Slab) (x : ℕ) → AreSpaced b end ss → b ≤ x → x < end
    → ((s : Slab) → In ss s → (x < s.to) ⊎ (s.to + s.len ≤ x)) → at (all_cleared file (gaps b end ss)) x ≡ 0
bare_zero file b end [] x h l m bare = cleared_inside file b (end - b) x l (omega arith)
bare_zero file b end (s ∷ ss) x h l m bare = elim (bare s (inl refl)) [
  | inl k ↦
      (grind (arith, nat_tests, cleared_beside, gap_low, cleared_inside, h.1))
  | inr k ↦ bare_zero (cleared file (b, s.to - b)) (s.to + s.len) end ss x h.1 k m (λ t i. bare t (inr i))
]

-- ---- the whole

head_first : (old new : Header) → header_len new ≤ new_end old new
head_first old new = omega arith

-- the slabs of the code's lists
pub carriable_spaced : (old new : Header) (ss : List Slab) (b end : ℕ) → IsCarriable old new → ss ≡ rising old new → b ≡ header_len new → end ≡ new_end old new
    → AreSpaced b end ss
carriable_spaced old new ss b end h e f g =
    grind (arith, nat_tests, risen_spaced (header_len old) (header_len new) (new_end old new) (rising old new) h.risen (head_first old new) h.inside, head_first)

pub carried_is : (old new : Header) (file : List ℕ) → IsCarriable old new → ((s : Slab) → In (slabs old new) s → In (rising old new) s)
    → ((s : Slab) → In (rising old new) s → In (slabs old new) s) → IsMoved old new file (carried old new file)
carried_is old new file h back forth =
    let first = header_len new in
    let end = new_end old new in
    let ss = rising old new in
    let full = longer file end in
    let up = up_moved full ss in
    let body = all_cleared up (gaps first end ss) in
    let whole : length full ≡ max (length file) end = longer_long file end in
    let low : first ≤ end = head_first old new in
    let room : end ≤ length full = omega (arith, whole) in
    let spaced : AreSpaced first end ss = risen_spaced (header_len old) first end ss h.risen low h.inside in
    let moved : length up ≡ length full = up_long full first end ss spaced room in
    let long : length body ≡ length full = cleared_whole up (gaps first end ss) (λ g i. omega (arith, moved, room, gap_high first end ss g spaced i)) ∙ moved in
    let head : 0 + length (canon new) ≤ length body = omega (arith, long, room, low) in
    let behind : (x : ℕ) → first ≤ x → at (written body 0 (canon new)) x ≡ at body x = λ x l. at-written_after body (canon new) 0 x (omega arith) in
    subst (λ (f : List ℕ). IsMoved old new file (written (all_cleared f (gaps first end ss)) 0 (canon new))) (sym (all_up full first end ss spaced room))
    (record {
      long = length-written_inside body 0 (canon new) head ∙ long ∙ whole;
      head = ap (λ (f : List ℕ). take first f) (written-inside body 0 (canon new) head) ∙ take_at (canon new) (drop (0 + length (canon new)) body) first refl;
      moved = λ s i d l.
          behind (s.to + d) (omega (arith, spaced_from first end ss s spaced (back s i)))
          ∙ cleared_beside up (gaps first end ss) (s.to + d) (λ g j. gap_beside first end ss s g (s.to + d) spaced (back s i) j (omega arith) (omega arith))
          ∙ up_inside full (header_len old) first end ss s d h.risen spaced (back s i) l
          ∙ at-longer file end (s.from + d);
      bare = λ x l m none. behind x l ∙ bare_zero up first end ss x spaced l m (λ s i. none s (forth s i));
      past = λ x l.
          behind x (omega (arith, low, l))
          ∙ cleared_beside up (gaps first end ss) x (λ g i. inr (omega (arith, l, gap_high first end ss g spaced i)))
          ∙ up_after full first end ss x spaced l
          ∙ at-longer file end x;
    })
