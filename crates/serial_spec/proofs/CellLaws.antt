-- Cells that lie apart, and what is written of them.
use Rattle.serial_spec.proofs.Words.{◌≡◌, ℕ, ◌+◌, ◌-◌, ◌<◌, ◌≤◌, refl, ◌∙◌, inl, inr, ◌⊎◌, List, [], ◌∷◌, length, get_or, Some, None, arith, cases_eq, AllByRecursion, same_number_lists, common_steps, length-map, length-range_with_len, enumerate_from, neither_some, second_counts, first_counts, at, read, written, AreApart, said_at, Cell, write_cells, said_by, nat_tests, In}
use Rattle.std.proofs.lemmas.List.FromFn.{get_or-map-range_with_len}
use Rattle.serial_spec.proofs.FileLaws.{length-written_inside}
use Rattle.serial_spec.proofs.SaidLaws.{said_below, said_past, said_inside, said_append}

-- ---- the same or not

pub same_index : (i j : List ℕ) → (i ≡ j) ⊎ (i ≡ j → ⊥)
same_index [] [] = inl refl
same_index (x ∷ i) (y ∷ j) = grind (arith, nat_tests, same_index i j, cases_eq)
same_index _ _ = inr (λ e. absurd cc)

-- ---- what cells say

-- the cell is this one, or shares no byte with it
abbrev pub IsOrApart : Cell → Cell → Type 0
IsOrApart c d = (d ≡ c) ⊎ AreApart d.0 (length d.1) c.0 (length c.1)

-- cells of which each is this one or apart from it say of its bytes what it says, or nothing
said_or_none : (c : Cell) (x : ℕ) → c.0 ≤ x → x < c.0 + length c.1 → (ds : List Cell) → AllByRecursion (IsOrApart c) ds
    → (said_at (said_by ds) x ≡ Some (get_or c.1 (x - c.0) 0)) ⊎ (said_at (said_by ds) x ≡ None)
said_or_none c x low high [] h = inr refl
said_or_none c x low high (d ∷ ds) h =
    let whole = said_append (enumerate_from d.0 d.1) (said_by ds) x in
    grind (arith, nat_tests, said_or_none c x low high ds h.1, first_counts (said_at (said_by ds) x), second_counts (said_at (said_by ds) x), said_inside, neither_some (said_at (said_by ds) x), said_past, said_below)

pub said_of : (c : Cell) (x : ℕ) → c.0 ≤ x → x < c.0 + length c.1 → (ds : List Cell) → AllByRecursion (IsOrApart c) ds → In ds c
    → said_at (said_by ds) x ≡ Some (get_or c.1 (x - c.0) 0)
said_of c x low high [] h m = absurd m
said_of c x low high (d ∷ ds) h xs = grind (arith, nat_tests, said_append, said_or_none, first_counts, second_counts, said_inside, said_of c x low high ds h.1)

-- cells that lie apart from a place say nothing of it
pub unsaid : (x : ℕ) (ds : List Cell) → AllByRecursion (λ d. AreApart d.0 (length d.1) x 1) ds → said_at (said_by ds) x ≡ None
unsaid x [] h = refl
unsaid x (d ∷ ds) h = grind (arith, nat_tests, said_append, neither_some, unsaid x ds h.1, said_at, said_by, said_past, said_below)

pub cells_within : (file : List ℕ) (ds : List Cell) (n : ℕ) → length file ≡ n → AllByRecursion (λ d. d.0 + length d.1 ≤ n) ds → length (write_cells file ds) ≡ n
cells_within file [] n e h = e
cells_within file (d ∷ ds) n e h = cells_within (written file d.0 d.1) ds n (length-written_inside file d.0 d.1 (omega (arith, h.0, e)) ∙ e) h.1

-- ---- reading

pub read_long : (file : List ℕ) (x n : ℕ) → length (read file x n) ≡ n
read_long file x n = grind (arith, nat_tests, length-map, length-range_with_len)

pub read_at : (file : List ℕ) (x n j : ℕ) → j < n → get_or (read file x n) j 0 ≡ at file (x + j)
read_at file x n j h = grind (arith, common_steps, get_or-map-range_with_len)

pub read_same : (f g : List ℕ) (a b n : ℕ) → ((j : ℕ) → j < n → at f (a + j) ≡ at g (b + j)) → read f a n ≡ read g b n
read_same f g a b n h = same_number_lists (read f a n) (read g b n) (grind (arith, nat_tests, read_long)) (λ j l. grind (arith, nat_tests, read_long, read_at f a n j, read_at g b n j, h j))
