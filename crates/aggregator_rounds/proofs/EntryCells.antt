-- Entries as cells: what they say, and where they lie.
use Rattle.aggregator_rounds.proofs.Words.{◌≡◌, ℕ, ◌+◌, ◌-◌, ◌<◌, ◌≤◌, inl, inr, refl, ◌∙◌, List, [], ◌∷◌, ◌++◌, length, take, drop, get_or, None, arith, length-take, length-drop, map, enumerate_from, option_or, said_below, said_past, said_inside, said_append, neither_some, second_counts, first_counts, Owned, Cell, said_at, said_by, IsFrom, IsWithin, clips, HasPlace, In, Source, cell_of, AreFound, clips_in, said_joined, IsCovered, some_or_none, nat_tests, ltb-true, ltb-false, common_steps}
use Rattle.aggregator_rounds.proofs.CoveredBytes.{covered_right}

-- ---- what entries say

abbrev pub entry_cells : Source → List Owned → List Cell
entry_cells source list = map (λ o. cell_of source o) list

pub entries_two : (source : Source) (a b : List Owned) (x : ℕ)
    → said_at (said_by (entry_cells source (a ++ b))) x ≡ option_or (said_at (said_by (entry_cells source b)) x) (said_at (said_by (entry_cells source a)) x)
entries_two source a b x = grind (arith, common_steps, said_at, said_joined (entry_cells source a) (entry_cells source b) x)

outside : (p n x : ℕ) (b : List ℕ) → length b ≤ n → (p ≤ x → x < p + n → ⊥) → said_at (enumerate_from p b) x ≡ None
outside p n x b l h = grind (arith, nat_tests, ltb-true, ltb-false, said_past, said_below)

-- nothing is said of a byte that no entry has
pub unsaid : (source : Source) (list : List Owned) (x : ℕ) → (IsCovered list x → ⊥) → said_at (said_by (entry_cells source list)) x ≡ None
unsaid source [] x h = refl
unsaid source (o ∷ list) x h =
    let cell = take o.extent.len (drop o.from (source o.rank o.slot)) in
    let rest : said_at (said_by (entry_cells source list)) x ≡ None = unsaid source list x (λ c. h (covered_right (o ∷ []) list x c)) in
    let here = outside o.extent.at o.extent.len x cell (omega (arith, length-take o.extent.len (drop o.from (source o.rank o.slot)))) (λ l k. h (record { by = o; inside = inl refl; low = l; high = k })) in
    said_append (enumerate_from o.extent.at cell) (said_by (entry_cells source list)) x ∙ neither_some _ _ rest here

said_of : (source : Source) (list : List Owned) (x : ℕ) (o : Owned) → AreFound source list → In list o → o.extent.at ≤ x → x < o.extent.at + o.extent.len
    → HasPlace (entry_cells source list) x
said_of source [] x o f m l h = absurd m
said_of source (p ∷ list) x o f (inr m) l h = grind (arith, nat_tests, said_of source list x o f.1 m l h, said_append, first_counts)
said_of source (p ∷ list) x o f (inl e) l h =
    let taken = take p.extent.len (drop p.from (source p.rank p.slot)) in
    let long : length taken ≡ p.extent.len = grind (arith, length-take p.extent.len (drop p.from (source p.rank p.slot)), length-drop p.from (source p.rank p.slot)) in
    let joined = said_append (enumerate_from p.extent.at taken) (said_by (entry_cells source list)) x in
    elim (some_or_none (said_at (said_by (entry_cells source list)) x)) [
      | inl g ↦ (get_or taken (x - p.extent.at) 0, grind (arith, nat_tests, joined, second_counts, said_inside p.extent.at taken x 0))
      | inr (v, g) ↦ (v, joined ∙ first_counts _ _ v g)
    ]

-- a covered byte has a place in the cells of a window that has it
pub covered_place : (source : Source) (list : List Owned) (lo hi x : ℕ) → AreFound source list → lo ≤ x → x < hi → IsCovered list x
    → HasPlace (clips lo hi (entry_cells source list)) x
covered_place source list lo hi x f l h c =
    grind (arith, nat_tests, said_of source list x c.by f c.inside c.low c.high, clips_in lo hi (entry_cells source list) x l h)

-- ---- where they lie

pub entries_from : (source : Source) (list : List Owned) (lo : ℕ) → ((o : Owned) → In list o → lo ≤ o.extent.at) → IsFrom lo (entry_cells source list)
entries_from source [] lo h = tt
entries_from source (o ∷ list) lo h = (h o (inl refl), entries_from source list lo (λ p m. h p (inr m)))

pub entries_within : (source : Source) (list : List Owned) (n : ℕ) → ((o : Owned) → In list o → o.extent.at + o.extent.len ≤ n) → IsWithin (entry_cells source list) n
entries_within source [] n h = tt
entries_within source (o ∷ list) n h = grind (arith, nat_tests, h o, length-take o.extent.len (drop o.from (source o.rank o.slot)), entries_within source list n, h)
