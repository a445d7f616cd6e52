-- A region that a check accepts has its positions in memory within the limits.
use Rattle.rank_core.proofs.Words.{◌≡◌, ℕ, zero, suc, ◌+◌, ◌-◌, ◌*◌, ◌<◌, ◌≤◌, sym, ap, ◌∙◌, List, [], ◌∷◌, length, map, zip, Bool, true, false, not, cond, ltb, leb, ◌&&◌, arith, range_with_len, AllByRecursion, Header, Var, Direction, Region, greatest, product, most_elements, IsIndex, check_var, last_position, other_shape, coordinates, position_at, reach, coordinates_all, IsMapped, no_coordinates, range_below, nat_tests, common_steps}
use Rattle.nc_base.specs.declared.answer.Code.TheVariants as code

-- ---- positions

times_below : (i n s : ℕ) → i < n → s * i ≤ (n - 1) * s
times_below i zero s h = absurd (omega arith)
times_below i (suc n) s h = grind (arith, common_steps)

position_below : (counts imap c : List ℕ) → IsIndex counts c → position_at imap c ≤ last_position counts imap
position_below [] [] [] h = omega arith
position_below [] (s ∷ imap) [] h = omega arith
position_below [] imap (i ∷ c) h = absurd h
position_below (n ∷ counts) imap [] h = absurd h
position_below (n ∷ counts) [] (i ∷ c) h = omega arith
position_below (n ∷ counts) (s ∷ imap) (i ∷ c) h = grind (arith, common_steps, zip imap c, zip counts imap, position_below counts imap c h.1, times_below i n s h.0)

all_positions : (counts imap : List ℕ) (cs : List (List ℕ)) → AllByRecursion (IsIndex counts) cs
    → greatest (map (λ m. m + 1) (map (λ c. position_at imap c) cs)) ≤ last_position counts imap + 1
all_positions counts imap [] h = omega arith
all_positions counts imap (c ∷ cs) h = grind (arith, nat_tests, position_below, all_positions counts imap cs h.1)

by_map : (g : Region) → g.packed ≡ false → reach g ≡ greatest (map (λ m. m + 1) (map (λ c. position_at g.imap c) (coordinates g.count)))
by_map g e = ap (λ (b : Bool). greatest (map (λ m. m + 1) (cond b (range_with_len 0 (product g.count)) (map (λ c. position_at g.imap c) (coordinates g.count))))) e

in_order : (g : Region) → g.packed ≡ true → reach g ≡ greatest (map (λ m. m + 1) (range_with_len 0 (product g.count)))
in_order g e = ap (λ (b : Bool). greatest (map (λ m. m + 1) (cond b (range_with_len 0 (product g.count)) (map (λ c. position_at g.imap c) (coordinates g.count))))) e

reach_none : (g : Region) → g.packed ≡ false → product g.count ≡ 0 → reach g ≡ 0
reach_none g e none = grind (arith, nat_tests, by_map, position_at, no_coordinates)

-- ---- what is not too large

record IsSmall (g : Region) : Type 0 where
  few : product g.count ≤ most_elements
  near : (not g.packed && ltb 0 (product g.count) && leb most_elements (last_position g.count g.imap)) ≡ false

within : (packed some far : Bool) → packed ≡ false → some ≡ true → (not packed && some && far) ≡ false → far ≡ false
within packed some far e f h = sym (ap (λ (b : Bool). not b && some && far) e ∙ ap (λ (b : Bool). true && b && far) f) ∙ h

near_of : (g : Region) → IsSmall g → (b : Bool) → g.packed ≡ b → reach g ≤ most_elements
near_of g s true e = let below = range_below 0 (product g.count) in omega (arith, s.few, in_order g e, below)
near_of g s false e =
    grind (arith, common_steps, all_positions g.count g.imap (coordinates g.count) (coordinates_all g.count), coordinates_all g.count, by_map g e, reach_none g e)

shape_of : (dims : ℕ) (g : Region) → other_shape dims g ≡ false → g.packed ≡ false → length g.imap ≡ length g.count
shape_of dims g h e = grind (arith, nat_tests)

pub accepted_mapped : (header : Header) (v : Var) (g : Region) (known : ℕ) (direction : Direction) → check_var header v g known direction ≡ code.Ok → IsMapped g
accepted_mapped header v g known direction h =
    grind (arith, nat_tests, shape_of, near_of)
