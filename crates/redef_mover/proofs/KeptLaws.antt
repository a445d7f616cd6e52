-- What the moves and the zeros keep of a file.
use Rattle.redef_mover.proofs.Words.{◌≡◌, ℕ, ◌+◌, ◌≤◌, inl, inr, refl, sym, subst, List, [], ◌∷◌, ◌++◌, length, Option, Some, None, Result, Ok, Err, arith, IfSome, OnOk, OnErr, IsTrue, PartlyWritten, after, BothTold, In, in_left, changes, Slab, at, written, at-written_before, at-written_after, length-written_inside, IsBeside, IsKept, IsOutside, IsUnmoved, cleared, slab_moved, window, nat_tests, ◌-◌, eqb-true}
use Rattle.redef_mover.proofs.ClearLaws.{cleared_after, cleared_before, cleared_long}
use Rattle.redef_mover.proofs.SlabLaws.{moved_after, moved_before, moved_long}
use Rattle.redef_mover.proofs.WindowLaws.{upper}

-- ---- files

write_beside : (file bytes : List ℕ) (place x : ℕ) → IsOutside place (length bytes) x → at (written file place bytes) x ≡ at file x
write_beside file bytes place x (inl h) = at-written_before file bytes place x h
write_beside file bytes place x (inr h) = at-written_after file bytes place x h

write_keeps : (file bytes : List ℕ) (place : ℕ) → place + length bytes ≤ length file → IsKept (IsOutside place (length bytes)) file (written file place bytes)
write_keeps file bytes place room = record { len = length-written_inside file place bytes room; kept = λ x h. write_beside file bytes place x h }

-- a write that was cut off
part_keeps : (file bytes left : List ℕ) (place : ℕ) → place + length bytes ≤ length file → PartlyWritten place bytes file left
    → IsKept (IsOutside place (length bytes)) file left
part_keeps file bytes left place room p = grind (arith, nat_tests, length-written_inside file place bytes room, write_beside)

-- ---- files that may be told

pub kept_same : (P : ℕ → Type 0) (held now : Option (List ℕ)) → now ≡ held → BothTold (IsKept P) held now
kept_same xs held now e = grind (arith, nat_tests)

pub kept_twice : (P : ℕ → Type 0) (held mid now : Option (List ℕ)) → BothTold (IsKept P) held mid → BothTold (IsKept P) mid now → BothTold (IsKept P) held now
kept_twice xs held mid now a b = grind (arith, nat_tests)

pub kept_of : (P Q : ℕ → Type 0) (held now : Option (List ℕ)) → ((x : ℕ) → Q x → P x) → BothTold (IsKept P) held now → BothTold (IsKept Q) held now
kept_of xs ys held now f a = grind (arith, nat_tests)

-- one change more, which keeps more
pub kept_more : (P Q : ℕ → Type 0) (held mid now : Option (List ℕ)) → ((x : ℕ) → Q x → P x) → BothTold (IsKept Q) held mid → BothTold (IsKept P) mid now
    → BothTold (IsKept Q) held now
kept_more P Q held mid now f a b = kept_twice Q held mid now a (kept_of P Q mid now f b)

-- a write, done or cut off
pub kept_written : {T E : Type 0} (r : Result T E) (held mid now : Option (List ℕ)) (bytes : List ℕ) (place a n size : ℕ)
    → IfSome held (λ file. length file ≡ size) → mid ≡ held → place ≡ a → length bytes ≡ n → a + n ≤ size
    → OnOk r (now ≡ after (λ file. written file place bytes) mid) → OnErr r (BothTold (PartlyWritten place bytes) mid now)
    → BothTold (IsKept (IsOutside a n)) held now
kept_written r held mid now bytes place a n size long same p l room ok bad =
    subst (λ (k : ℕ). BothTold (IsKept (IsOutside a k)) held now) l
    (subst (λ (y : ℕ). BothTold (IsKept (IsOutside y (length bytes))) held now) p
    (by_result r held long (subst (λ (m : Option (List ℕ)). OnOk r (now ≡ after (λ file. written file place bytes) m)) same ok)
    (subst (λ (m : Option (List ℕ)). OnErr r (BothTold (PartlyWritten place bytes) m now)) same bad)))
  where
    by_result : {T E : Type 0} (r : Result T E) (held : Option (List ℕ)) → IfSome held (λ file. length file ≡ size)
        → OnOk r (now ≡ after (λ file. written file place bytes) held) → OnErr r (BothTold (PartlyWritten place bytes) held now)
        → BothTold (IsKept (IsOutside place (length bytes))) held now
    by_result (Ok x) None long ok bad = ok
    by_result (Ok x) (Some file) long ok bad = (written file place bytes, ok, write_keeps file bytes place (omega arith))
    by_result (Err e) None long ok bad = bad
    by_result (Err e) (Some file) long ok bad = (bad.0, bad.1, part_keeps file bytes bad.0 place (omega arith) bad.2)

-- the length of a file that was kept
pub kept_long : (P : ℕ → Type 0) (held mid : Option (List ℕ)) (size : ℕ) → IfSome held (λ file. length file ≡ size) → BothTold (IsKept P) held mid
    → IfSome mid (λ file. length file ≡ size)
kept_long xs held mid size long a = grind (arith, nat_tests)

-- ---- moves

pub outside_window : (z j x : ℕ) (s w : Slab) → w ≡ window z s j → IsOutside s.to s.len x → IsOutside w.to w.len x
outside_window z j x s w e h = grind (arith, nat_tests)

changed : (s : Slab) → (s.from ≡ s.to → ⊥) → IsTrue (changes s)
changed s differ = grind (arith, nat_tests, eqb-true)

-- the only slab
pub outside_one : (s : Slab) (x : ℕ) → (s.from ≡ s.to → ⊥) → IsUnmoved (s ∷ []) x → IsOutside s.to s.len x
outside_one s x differ h = h s (inl refl) (changed s differ)

-- the upper windows of a slab
pub upper_kept : (held now : Option (List ℕ)) (z j size : ℕ) (s : Slab) → IfSome held (λ file. length file ≡ size) → s.to + s.len ≤ size
    → now ≡ after (λ file. slab_moved file (upper z s j)) held → BothTold (IsKept (IsOutside s.to s.len)) held now
upper_kept None now z j size s long room e = e
upper_kept (Some file) now z j size s long room e =
    grind (arith, nat_tests, moved_long file (upper z s j), at (slab_moved file (upper z s j)), at file, moved_before file (upper z s j), moved_after file (upper z s j))

-- ---- gaps

pub outside_part : (a n b m x : ℕ) → a ≤ b → b + m ≤ a + n → IsOutside a n x → IsOutside b m x
outside_part a n b m x low high (inl l) = inl (omega arith)
outside_part a n b m x low high (inr l) = inr (omega arith)

-- the first windows of a gap
pub first_kept : (held now : Option (List ℕ)) (place n len size : ℕ) → IfSome held (λ file. length file ≡ size) → n ≤ len → place + len ≤ size
    → now ≡ after (λ file. cleared file (place, n)) held → BothTold (IsKept (IsOutside place len)) held now
first_kept held now place n len size long few room e = grind (arith, nat_tests, cleared_long, cleared_before, cleared_after)

pub beside_front : (front rest all : List (ℕ × ℕ)) (x : ℕ) → all ≡ front ++ rest → IsBeside all x → IsBeside front x
beside_front front rest all x e h g i = h g (subst (λ (gs : List (ℕ × ℕ)). In gs g) (sym e) (in_left front rest g i))
