-- The values that gets gave do not show in a blank answer.
use Rattle.join_laws.proofs.Words.{◌≡◌, ℕ, refl, ap, List, [], ◌∷◌, length, map, Option, Some, None, map-append, zip, pos, option_map, Item, Header, NcType, Post, Region, Value, Values, Class, Open, Rank, got_values, hear_open, values_for, with_its_values, code_in, gathered, number_in, spread, TellAlike, blank, blank_item, blank_values, arith, nat_tests}
use Rattle.nc_base.specs.declared.step.Reply as reply

-- ---- values

same_blanks : {B C D : Type 0} (z : D) (u : B → C) (f g : ℕ → B) (xs : List ℕ) → map (λ (x : C). z) (map u (map f xs)) ≡ map (λ (x : C). z) (map u (map g xs))
same_blanks z u f g [] = refl
same_blanks {D = D} z u f g (x ∷ xs) = ap (λ (zs : List D). z ∷ zs) (same_blanks z u f g xs)

blank_gathered : (k : Class) (f g : ℕ → Option Value) (xs : List ℕ) → blank_values (gathered k (map f xs)) ≡ blank_values (gathered k (map g xs))
blank_gathered k f g xs = let zero : ℕ = 0 in grind (arith, nat_tests, same_blanks zero code_in f g xs, same_blanks (pos 0) number_in f g xs)

blank_spread : (kind : NcType) (g : Region) (b c : List ℕ) → blank_values (spread kind g b) ≡ blank_values (spread kind g c)
blank_spread kind g b c = grind (arith, nat_tests, blank_gathered)

-- ---- the values of the gets by id

abbrev blank_found : ℕ × Values → ℕ × Values
blank_found v = (v.0, blank_values v.1)

found_blank : (header : Header) (gets : List Post) (one other : List (List ℕ)) → map (λ b. length b) one ≡ map (λ b. length b) other
    → map blank_found (got_values header (zip gets one)) ≡ map blank_found (got_values header (zip gets other))
found_blank header (p ∷ gets) [] (c ∷ other) e = absurd cc
found_blank header (p ∷ gets) (b ∷ one) (c ∷ other) e =
    let v : (kind : NcType) → blank_found (p.id, spread kind p.region b) ≡ blank_found (p.id, spread kind p.region c) = λ kind. ap (λ (v : Values). (p.id, v)) (blank_spread kind p.region b c) in
    grind (arith, nat_tests, found_blank header gets one other, v)
found_blank header gets one other e = cc

for_blank : (found : List (ℕ × Values)) (id : ℕ) → option_map blank_values (values_for found id) ≡ values_for (map blank_found found) id
for_blank [] id = refl
for_blank (v ∷ found) id = grind (arith, nat_tests, for_blank found id, map-append)

items_blank : (found : List (ℕ × Values)) (items : List Item) → map blank_item (map (with_its_values found) items) ≡ map (with_its_values (map blank_found found)) items
items_blank found [] = refl
items_blank found (i ∷ items) = grind (arith, nat_tests, items_blank found items, for_blank)

-- ---- an answer to a reply

pub hear_blank : (header : Header) (r : Rank) (y z : reply.Reply) (m : Option Open) → TellAlike y z → blank (hear_open header r y m).1 ≡ blank (hear_open header r z m).1
hear_blank header r y z None t = refl
hear_blank header r y z (Some o) t =
    grind (arith, nat_tests, found_blank header o.gets y.got z.got t.lengths, items_blank, for_blank)
