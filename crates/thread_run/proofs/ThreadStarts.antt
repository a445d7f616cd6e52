-- Lists that grow by one, and what stands in their middle: threads as they are started and joined.
use Rattle.thread_run.proofs.Words.{All-get_or, append_assoc, get_or_from_slice_get, middle_at, ◌≡◌, ℕ, zero, suc, ◌+◌, ◌<◌, sym, ◌∙◌, ap, subst, ◌⊎◌, List, [], ◌∷◌, ◌++◌, All, length, map, Some, arith, length-map, slice_get, range_with_len, Header, Script, OwnerItem, RankItem, End, Line, AreOf, AreRankHandles, IsOf, IsRankHandle, RankHandle, Word, slice_get_within, long_push, nat_tests}

-- ---- the middle of a list

pub get_middle : {X : Type 0} (ys : List X) (z : X) (zs xs : List X) → ys ++ z ∷ zs ≡ xs → slice_get xs (length ys) ≡ Some z
get_middle ys z zs xs e = middle_at ys zs xs z e

pub get_mapped : {P X : Type 0} (f : P → X) (ps : List P) (z : X) (zs xs : List X) → map f ps ++ z ∷ zs ≡ xs → slice_get xs (length ps) ≡ Some z
get_mapped f ps z zs xs e = ap (λ (n : ℕ). slice_get xs n) (sym (length-map ps f)) ∙ get_middle (map f ps) z zs xs e

pub all_at : {X : Type 0} (P : X → Type 0) (xs : List X) (k : ℕ) (x : X) → All P xs → slice_get xs k ≡ Some x → P x
all_at P xs k x h e = subst P (get_or_from_slice_get xs k x x e) (All-get_or P xs k x (slice_get_within xs k x e) h)

pub all_middle : {X : Type 0} (P : X → Type 0) (ys : List X) (z : X) (zs xs : List X) → ys ++ z ∷ zs ≡ xs → All P xs → P z
all_middle P ys z zs xs e h = all_at P xs (length ys) z h (get_middle ys z zs xs e)

-- numbers that count from 0
pub number_middle : {X : Type 0} (f : X → ℕ) (ys : List X) (z : X) (zs xs : List X) (n : ℕ) → ys ++ z ∷ zs ≡ xs → map f xs ≡ range_with_len 0 n → (f z ≡ length ys) × (length ys < n)
number_middle f ys z zs xs n e h = let a = at ys 0 n (ap (map f) e ∙ h) in let b = a.0 in (omega arith, a.1)
  where
    at : (ys : List _) (from n : ℕ) → map f (ys ++ z ∷ zs) ≡ range_with_len from n → (f z ≡ from + length ys) × (length ys < n)
    at [] from zero k = grind (arith, nat_tests)
    at [] from (suc n) k = let a : f z ≡ from = cc in (omega arith, omega arith)
    at (y ∷ ys) from zero k = grind (arith, nat_tests)
    at (y ∷ ys) from (suc n) k = let a = at ys (from + 1) n cc in let b = a.0 in let c = a.1 in (omega arith, omega arith)

pub snoc_append : {X : Type 0} (xs : List X) (x : X) (ys : List X) → (xs ++ x ∷ []) ++ ys ≡ xs ++ x ∷ ys
snoc_append xs x ys = append_assoc xs (x ∷ []) ys

pub both_long : {X Y : Type 0} (xs now : List X) (x : X) (ys : List Y) (y : Y) → now ≡ xs ++ x ∷ [] → length xs ≡ length ys → length now ≡ length (ys ++ y ∷ [])
both_long xs now x ys y e l = ap (λ (v : List _). length v) e ∙ long_push xs x ∙ ap (λ (n : ℕ). suc n) l ∙ sym (long_push ys y)

pub get_push : {X : Type 0} (xs : List X) (x y : X) (q : ℕ) → slice_get (xs ++ x ∷ []) q ≡ Some y → (slice_get xs q ≡ Some y) ⊎ ((q ≡ length xs) × (x ≡ y))
get_push (z ∷ xs) x y q e = grind (arith, nat_tests, get_push xs x y)
get_push xs x y q e = grind (arith, nat_tests)

-- ---- threads

pub of_push : (header : Header) (script : Script) (ones now : List RankHandle) (one : RankHandle) → now ≡ ones ++ one ∷ [] → AreOf header script ones → IsOf header script one → AreOf header script now
of_push header script ones now one e h k r x f = grind (arith, nat_tests, get_push)

pub handles_push : (inbox : Line (ℕ × RankItem)) (words : List Word) (ones ones' : List RankHandle) (lines lines' : List (End OwnerItem)) (one : RankHandle) (line : End OwnerItem)
    → ones' ≡ ones ++ one ∷ [] → lines' ≡ lines ++ line ∷ [] → AreRankHandles inbox words ones lines → IsRankHandle inbox (length ones) words one line → AreRankHandles inbox words ones' lines'
handles_push inbox words ones ones' lines lines' one line e f h k = grind (arith, nat_tests, both_long, get_push, slice_get_within)

pub handle_at : (inbox of : Line (ℕ × RankItem)) (r number : ℕ) (words : List Word) (one : RankHandle) (line : End OwnerItem) → number ≡ r → of ≡ inbox → IsRankHandle of number words one line → IsRankHandle inbox r words one line
handle_at inbox of r number words one line e f k = subst (λ (q : ℕ). IsRankHandle inbox q words one line) e (subst (λ (l : Line (ℕ × RankItem)). IsRankHandle l number words one line) f k)

-- its own number is the one that it was given
pub own_number : (inbox now : Line (ℕ × RankItem)) (r : ℕ) (words : List Word) (one : RankHandle) (line : End OwnerItem) → inbox ≡ now → IsRankHandle inbox r words one line
    → IsRankHandle now one.child.promise.ends.value.out.number words one line
own_number inbox now r words one line e k = grind (arith, nat_tests)
