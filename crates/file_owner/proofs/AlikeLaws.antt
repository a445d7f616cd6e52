-- Items that are alike, one list after another; and lines on which items are put one after another.
use Rattle.file_owner.proofs.Words.{◌≡◌, ℕ, suc, ◌<◌, sym, ◌∙◌, ap, subst, List, [], ◌∷◌, ◌++◌, length, take, Some, append_assoc, arith, append-nil, OwnerItem, End, AreAlike, Grows, nat_tests, slice_get_within}

-- ---- alike

pub alike_by : (a b c d : List OwnerItem) → a ≡ b → d ≡ c → AreAlike b c → AreAlike a d
alike_by a b c d e f w = subst (λ (x : List OwnerItem). AreAlike x d) (sym e) (subst (λ (x : List OwnerItem). AreAlike b x) (sym f) w)

pub alike_take : (n : ℕ) (xs ys : List OwnerItem) → AreAlike xs ys → AreAlike (take n xs) (take n ys)
alike_take (suc n) (x ∷ xs) (y ∷ ys) (h, hs) = (h, alike_take n xs ys hs)
alike_take n xs ys h = grind (arith, nat_tests)

pub alike_long : (xs ys : List OwnerItem) → AreAlike xs ys → length xs ≡ length ys
alike_long (x ∷ xs) (y ∷ ys) (h, hs) = ap (λ (n : ℕ). suc n) (alike_long xs ys hs)
alike_long xs ys h = grind (arith, nat_tests)

-- ---- lines

abbrev pub Lines : Type 0
Lines = List (End OwnerItem)

pub lines_twice : (old mid now : Lines) (more last : ℕ → List OwnerItem) → Grows old more mid → Grows mid last now → Grows old (λ q. more q ++ last q) now
lines_twice old mid now more last g h = record {
  long = h.long ∙ g.long;
  each = λ q end e. grind (arith, nat_tests, h.each q (record { of = end.of; items = end.items ++ more q }) (g.each q end e), append_assoc end.items (more q) (last q));
}

pub lines_none : (old now : Lines) → now ≡ old → Grows old (λ q. []) now
lines_none old now e = grind (arith, nat_tests, append-nil)

-- as much by another word
pub lines_as : (old now : Lines) (more last : ℕ → List OwnerItem) → ((q : ℕ) → q < length old → last q ≡ more q) → Grows old more now → Grows old last now
lines_as old now more last same g = record {
  long = g.long;
  each = λ q end e. g.each q end e ∙ ap (λ (items : List OwnerItem). Some (record { of = end.of; items = end.items ++ items })) (sym (same q (slice_get_within old q end e)));
}
