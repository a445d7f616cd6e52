-- A relocation that was cut off: what it may have changed of a file.
use Rattle.redef_mover.proofs.Words.{◌≡◌, ℕ, ◌+◌, ◌-◌, ◌<◌, ◌≤◌, max, inl, inr, sym, ◌∙◌, ap, subst, List, [], ◌∷◌, length, get_or, Option, Some, None, arith, IfSome, IsTrue, nat_tests, common_steps, Header, PartlyWritten, after, BothTold, In, changes, gaps, new_end, IsMoved, Slab, at, longer, header_len, redefined, IsLengthened, IsTornRedefinition, at-longer, at-written_after, get_or-written_within, length-written_inside, longer_long, IsBeside, IsKept, IsOutside, IsUnmoved, AreSpaced, IsPartlyCarried, IsPartlyRewritten, KeepsPlaces, told_as}
use Rattle.redef_mover.proofs.ClearLaws.{spaced_low}
use Rattle.redef_mover.proofs.CarryLaws.{carried_is, gap_beside, gap_high, gap_low, spaced_from}
use Rattle.redef_mover.proofs.AppliedLaws.{HasLaws, relocated}

-- ---- bytes that neither moves nor zeros change

-- the byte is before the slabs and gaps, or past them, or in a slab that has its place
pub data Spared (b end : ℕ) (ss : List Slab) (x : ℕ) : Type 0 where
  before : x < b → Spared b end ss x
  past : end ≤ x → Spared b end ss x
  in_place : (s : Slab) → In ss s → s.from ≡ s.to → s.to ≤ x → x < s.to + s.len → Spared b end ss x

high_of : (b end : ℕ) (ss : List Slab) (s : Slab) → AreSpaced b end ss → In ss s → s.to + s.len ≤ end
high_of b end [] s h i = absurd i
high_of b end (t ∷ ss) s h (inl e) = subst (λ (u : Slab). u.to + u.len ≤ end) e (spaced_low (t.to + t.len) end ss h.1)
high_of b end (t ∷ ss) s h (inr i) = high_of (t.to + t.len) end ss s h.1 i

stays_same : (s : Slab) → s.from ≡ s.to → IsTrue (changes s) → ⊥
stays_same s e c = grind (arith, nat_tests)

-- a slab that moves is beside one that does not
two_beside : (b end : ℕ) (ss : List Slab) (s t : Slab) (x : ℕ) → AreSpaced b end ss → In ss s → In ss t → s.from ≡ s.to → IsTrue (changes t) → s.to ≤ x → x < s.to + s.len
    → IsOutside t.to t.len x
two_beside b end [] s t x h i j e c l k = absurd i
two_beside b end (u ∷ ss) s t x h (inl i) (inl j) e c l k = absurd (stays_same t (subst (λ (v : Slab). v.from ≡ v.to) (sym i ∙ j) e) c)
two_beside b end (u ∷ ss) s t x h (inl i) (inr j) e c l k = grind (arith, nat_tests, spaced_from (u.to + u.len) end ss t h.1 j)
two_beside b end (u ∷ ss) s t x h (inr i) (inl j) e c l k = grind (arith, nat_tests, spaced_from (u.to + u.len) end ss s h.1 i)
two_beside b end (u ∷ ss) s t x h (inr i) (inr j) e c l k = two_beside (u.to + u.len) end ss s t x h.1 i j e c l k

spared_unmoved : (b end : ℕ) (ss : List Slab) (x : ℕ) → AreSpaced b end ss → Spared b end ss x → IsUnmoved ss x
spared_unmoved b end ss x h (before l) t i c = let low = spaced_from b end ss t h i in inl (omega arith)
spared_unmoved b end ss x h (past l) t i c = let high = high_of b end ss t h i in inr (omega arith)
spared_unmoved b end ss x h (in_place s i e l k) t j c = two_beside b end ss s t x h i j e c l k

spared_beside : (b end : ℕ) (ss : List Slab) (x : ℕ) → AreSpaced b end ss → Spared b end ss x → IsBeside (gaps b end ss) x
spared_beside b end ss x h (before l) g i = let low = gap_low b end ss g h i in inl (omega arith)
spared_beside b end ss x h (past l) g i = let high = gap_high b end ss g h i in inr (omega arith)
spared_beside b end ss x h (in_place s i e l k) g j = gap_beside b end ss s g x h i j l k

-- ---- files that may be told

told_twice : {A : Type 0} (R S T : A → A → Type 0) (held mid now : Option A) → ((old one two : A) → R old one → S one two → T old two)
    → BothTold R held mid → BothTold S mid now → BothTold T held now
told_twice xs ys n held mid now f a b = grind (arith, nat_tests)

-- nothing was changed
pub not_begun : (old new : Header) (held now : Option (List ℕ)) → now ≡ held → BothTold (IsPartlyCarried old new) held now
not_begun old new held now e = grind (arith, nat_tests)

-- there is room up to the end
room_grown : (held now : Option (List ℕ)) (end : ℕ) → now ≡ after (λ file. longer file end) held → IfSome now (λ file. end ≤ length file)
room_grown held now end e = grind (arith, nat_tests, longer_long)

room_kept : (P : ℕ → Type 0) (mid now : Option (List ℕ)) (end : ℕ) → IfSome mid (λ file. end ≤ length file) → BothTold (IsKept P) mid now
    → IfSome now (λ file. end ≤ length file)
room_kept xs mid now end h k = grind (arith, nat_tests)

-- ---- a file on the way

-- as far as it was carried before its header is written
pub record IsOnWay (b end : ℕ) (ss : List Slab) (file left : List ℕ) : Type 0 where
  pub long : length file ≤ length left
  pub short : length left ≤ max (length file) end
  pub spared : (x : ℕ) → Spared b end ss x → at left x ≡ at file x

way_grown : (b end : ℕ) (ss : List Slab) (file left : List ℕ) → IsLengthened end file left → IsOnWay b end ss file left
way_grown b end ss file left l = grind (arith, nat_tests, at-longer)

way_kept : (b end : ℕ) (ss : List Slab) (P : ℕ → Type 0) (file mid left : List ℕ) → ((x : ℕ) → Spared b end ss x → P x) → IsOnWay b end ss file mid → IsKept P mid left
    → IsOnWay b end ss file left
way_kept b end ss P file mid left f w k =
    let long = w.long in
    let short = w.short in
    record { long = omega arith; short = omega arith; spared = λ x h. k.kept x (f x h) ∙ w.spared x h }

module _ (ss : List Slab) (head : List ℕ) (end : ℕ) (spaced : AreSpaced (length head) end ss) where
  way_end : (file left : List ℕ) → IsOnWay (length head) end ss file left → IsPartlyRewritten ss head end file left
  way_end file left w = record {
    long = w.long;
    short = w.short;
    head = λ x l. inl (w.spared x (before l));
    past = λ x l. w.spared x (past l);
    stays = λ s i e x l m. w.spared x (in_place s i e l m);
  }

  -- the bytes at the front were cut off
  way_headed : (file mid left : List ℕ) (place : ℕ) → place ≡ 0 → end ≤ length mid → IsOnWay (length head) end ss file mid
      → PartlyWritten place head mid left → IsPartlyRewritten ss head end file left
  way_headed file mid left place p room w q = record {
    long = omega (arith, length_same, w.long);
    short = omega (arith, length_same, w.short);
    head = λ x l. elim (plain.each x) [
      | inl e ↦ inl (e ∙ w.spared x (before l))
      | inr e ↦
          (let same : x - 0 ≡ x = omega arith in
          inr (e ∙ get_or-written_within mid 0 head x (omega (arith, low)) (omega (arith, low)) (omega (arith, low)) ∙ ap (λ (y : ℕ). get_or head y 0) same))
    ];
    past = λ x l. by_rest x (omega (arith, low, l)) ∙ w.spared x (past l);
    stays = λ s i e x l m. by_rest x (omega (arith, spaced_from (length head) end ss s spaced i, l)) ∙ w.spared x (in_place s i e l m);
  }
    where
      low : length head ≤ end
      low = spaced_low (length head) end ss spaced

      plain : PartlyWritten 0 head mid left
      plain = subst (λ (y : ℕ). PartlyWritten y head mid left) p q

      length_same : length left ≡ length mid
      length_same = plain.len ∙ length-written_inside mid 0 head (omega (arith, low))

      by_rest : (x : ℕ) → length head ≤ x → at left x ≡ at mid x
      by_rest x l = elim (plain.each x) [ inl e ↦ e | inr e ↦ e ∙ at-written_after mid head 0 x (omega arith) ]

  -- ---- one call more

  on_way_grown : (held now : Option (List ℕ)) → BothTold (IsLengthened end) held now → BothTold (IsOnWay (length head) end ss) held now
  on_way_grown held now t = told_as (IsLengthened end) (IsOnWay (length head) end ss) held now (λ file left l. way_grown (length head) end ss file left l) t

  on_way_kept : (P : ℕ → Type 0) (held mid now : Option (List ℕ)) → ((x : ℕ) → Spared (length head) end ss x → P x) → BothTold (IsOnWay (length head) end ss) held mid
      → BothTold (IsKept P) mid now → BothTold (IsOnWay (length head) end ss) held now
  on_way_kept P held mid now f t u =
      told_twice (IsOnWay (length head) end ss) (IsKept P) (IsOnWay (length head) end ss) held mid now (λ file one two w q. way_kept (length head) end ss P file one two f w q) t u

  on_way_moved : (held grown now : Option (List ℕ)) → BothTold (IsLengthened end) held grown → BothTold (IsKept (IsUnmoved ss)) grown now
      → BothTold (IsOnWay (length head) end ss) held now
  on_way_moved held grown now g u = on_way_kept (IsUnmoved ss) held grown now (λ x s. spared_unmoved (length head) end ss x spaced s) (on_way_grown held grown g) u

  on_way_cleared : (held grown moved now : Option (List ℕ)) → BothTold (IsLengthened end) held grown → BothTold (IsKept (IsUnmoved ss)) grown moved
      → BothTold (IsKept (IsBeside (gaps (length head) end ss))) moved now → BothTold (IsOnWay (length head) end ss) held now
  on_way_cleared held grown moved now g u v =
      on_way_kept (IsBeside (gaps (length head) end ss)) held moved now (λ x s. spared_beside (length head) end ss x spaced s) (on_way_moved held grown moved g u) v

  on_way_end : (held now : Option (List ℕ)) → BothTold (IsOnWay (length head) end ss) held now → BothTold (IsPartlyRewritten ss head end) held now
  on_way_end held now t = told_as (IsOnWay (length head) end ss) (IsPartlyRewritten ss head end) held now (λ file left w. way_end file left w) t

  -- ---- where a call was refused

  pub cut_grown : (held now : Option (List ℕ)) → BothTold (IsLengthened end) held now → BothTold (IsPartlyRewritten ss head end) held now
  cut_grown held now g = on_way_end held now (on_way_grown held now g)

  pub cut_moved : (held grown now : Option (List ℕ)) → BothTold (IsLengthened end) held grown → BothTold (IsKept (IsUnmoved ss)) grown now
      → BothTold (IsPartlyRewritten ss head end) held now
  cut_moved held grown now g u = on_way_end held now (on_way_moved held grown now g u)

  pub cut_cleared : (held grown moved now : Option (List ℕ)) → BothTold (IsLengthened end) held grown → BothTold (IsKept (IsUnmoved ss)) grown moved
      → BothTold (IsKept (IsBeside (gaps (length head) end ss))) moved now → BothTold (IsPartlyRewritten ss head end) held now
  cut_cleared held grown moved now g u v = on_way_end held now (on_way_cleared held grown moved now g u v)

  by_head : (held mid now : Option (List ℕ)) (place : ℕ) → place ≡ 0 → IfSome mid (λ file. end ≤ length file)
      → BothTold (IsOnWay (length head) end ss) held mid → BothTold (PartlyWritten place head) mid now → BothTold (IsPartlyRewritten ss head end) held now
  by_head None mid now place p room w q = subst (λ (m : Option (List ℕ)). BothTold (PartlyWritten place head) m now) w q
  by_head (Some file) mid now place p room w q = grind (arith, nat_tests, way_headed file w.0)

  pub cut_headed : (held grown moved cleared now : Option (List ℕ)) (place : ℕ) → place ≡ 0 → grown ≡ after (λ file. longer file end) held → BothTold (IsLengthened end) held grown
      → BothTold (IsKept (IsUnmoved ss)) grown moved → BothTold (IsKept (IsBeside (gaps (length head) end ss))) moved cleared
      → BothTold (PartlyWritten place head) cleared now → BothTold (IsPartlyRewritten ss head end) held now
  cut_headed held grown moved cleared now place p e g u v q =
      by_head held cleared now place p (room_kept _ moved cleared end (room_kept _ grown moved end (room_grown held grown end e) u) v) (on_way_cleared held grown moved cleared g u v) q

-- ---- what a relocation promises

is_moved : (old new : Header) (file : List ℕ) → HasLaws old new → IsMoved old new file (redefined file old new)
is_moved old new file h = subst (λ (f : List ℕ). IsMoved old new file f) (relocated old new h file) (carried_is old new file h.carriable (λ s. (h.all s).1) (λ s. (h.all s).0))

torn : (old new : Header) (file left : List ℕ) → HasLaws old new → IsPartlyCarried old new file left
    → IsTornRedefinition (header_len new) (new_end old new) file (redefined file old new) left
torn old new file left h p = grind (arith, nat_tests, is_moved, common_steps, p.short, p.long, p.head, p.past, new_end)

pub relocation_torn : (old new : Header) (held now : Option (List ℕ)) → HasLaws old new → BothTold (IsPartlyCarried old new) held now
    → BothTold (λ file left. IsTornRedefinition (header_len new) (new_end old new) file (redefined file old new) left) held now
relocation_torn old new held now h b =
    told_as (IsPartlyCarried old new) (λ file left. IsTornRedefinition (header_len new) (new_end old new) file (redefined file old new) left) held now
    (λ file left p. torn old new file left h p) b

pub relocation_keeps : (old new : Header) (held now : Option (List ℕ)) → HasLaws old new → BothTold (IsPartlyCarried old new) held now
    → BothTold (KeepsPlaces old new) held now
relocation_keeps old new held now h b = grind (arith, nat_tests, told_as)
