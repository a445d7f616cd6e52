-- Threads as they are joined.
use Rattle.thread_run.proofs.Words.{append_assoc, length-append, map-append, ◌≡◌, ℕ, ◌∙◌, ap, inl, inr, ◌⊎◌, List, [], ◌∷◌, ◌++◌, length, map, Some, arith, length-map, slice_get, RankEnd, OwnerItem, RankItem, End, items_under, IsSettledOf, RankHandle, nat_tests}
use Rattle.thread_run.proofs.ThreadStarts.{get_push}

pub map_snoc : {P X : Type 0} (f : P → X) (ps : List P) (p : P) (xs : List X) → map f (ps ++ p ∷ []) ++ xs ≡ map f ps ++ f p ∷ xs
map_snoc f ps p xs = ap (λ (v : List _). v ++ xs) (map-append f ps (p ∷ [])) ∙ append_assoc (map f ps) (f p ∷ []) xs

abbrev pub AreSettledSoFar : List (ℕ × RankItem) → List RankHandle → List (End OwnerItem) → List RankEnd → Type 0
AreSettledSoFar arrivals ones lines ends = (r : ℕ) (one : RankHandle) (line : End OwnerItem) (end : RankEnd) → slice_get ones r ≡ Some one → slice_get lines r ≡ Some line → slice_get ends r ≡ Some end
    → IsSettledOf one (items_under r arrivals) line.items end

pub settled_first : (arrivals : List (ℕ × RankItem)) (ones : List RankHandle) (lines : List (End OwnerItem)) (ends : List RankEnd) → ends ≡ [] → AreSettledSoFar arrivals ones lines ends
settled_first arrivals ones lines ends e r one line end a b d = grind (arith, nat_tests)

pub settled_push : (arrivals now : List (ℕ × RankItem)) (ones : List RankHandle) (lines : List (End OwnerItem)) (ends ends' : List RankEnd) (n : ℕ) (one : RankHandle) (line : End OwnerItem) (end : RankEnd)
    → ends' ≡ ends ++ end ∷ [] → length ends ≡ n → now ≡ arrivals → one.child.promise.ends.value.out.number ≡ n → slice_get ones n ≡ Some one → slice_get lines n ≡ Some line
    → IsSettledOf one (items_under one.child.promise.ends.value.out.number now) line.items end → AreSettledSoFar arrivals ones lines ends → AreSettledSoFar arrivals ones lines ends'
settled_push arrivals now ones lines ends ends' n one line end e l same number at_one at_line k h r x y z a b d = grind (arith, nat_tests, get_push ends end z r)

pub of_either : {A B P : Type 0} → A ⊎ B → (A → P) → (B → P) → P
of_either (inl a) f h = f a
of_either (inr b) f h = h b

-- nothing is left
pub none_left : {P X : Type 0} (f : P → X) (ps : List P) (rest xs : List X) → map f ps ++ rest ≡ xs → length rest ≡ 0 → length ps ≡ length xs
none_left f ps rest xs e l = grind (arith, nat_tests, length-append (map f ps) rest, length-map ps f)
