-- Ranks beside others, and answers without values.
use Rattle.run_plan.proofs.Words.{◌≡◌, ℕ, zero, suc, refl, sym, ◌∙◌, ap, List, [], ◌∷◌, map, None, Some, slice_get, same_Some, map_map, Answer, Item, Offer, Going, blank, blank_item, AllBeside, Arrived, item_without_values, without_values}

-- the ranks at one place hold the same offer
pub offer_beside : (ps qs : List Arrived) (r : ℕ) (t : Going) (o : Offer) → AllBeside ps qs → slice_get qs r ≡ Some (t, Some o) → (g : Going) × (slice_get ps r ≡ Some (g, Some o))
offer_beside [] [] r t o h e = absurd cc
offer_beside [] (q ∷ qs) r t o h e = absurd h
offer_beside (p ∷ ps) [] r t o h e = absurd h
offer_beside (p ∷ ps) (q ∷ qs) zero t o h e =
    let same : q ≡ (t, Some o) = same_Some q (t, Some o) e in
    let held = h.0.1 ∙ ap (λ (a : Arrived). a.1) same in
    (p.0, λ i. Some (p.0, held i))
offer_beside (p ∷ ps) (q ∷ qs) (suc r) t o h e = offer_beside ps qs r t o h.1 e

-- ---- answers without values

blank_none : (a : Answer) → without_values (blank a) ≡ without_values a
blank_none a = ap (λ (items : List Item). record a { values = None; items = items }) (map_map item_without_values blank_item a.items)

row_none : (row : List Answer) → map without_values (map blank row) ≡ map without_values row
row_none [] = refl
row_none (a ∷ row) = let first = blank_none a in let others = row_none row in λ i. first i ∷ others i

table_none : (table : List (List Answer)) → map (map without_values) (map (map blank) table) ≡ map (map without_values) table
table_none [] = refl
table_none (row ∷ table) = let first = row_none row in let others = table_none table in λ i. first i ∷ others i

-- answers that differ in values alone
pub same_without_values : (one other : List (List Answer)) → map (map blank) one ≡ map (map blank) other → map (map without_values) one ≡ map (map without_values) other
same_without_values one other e = sym (table_none one) ∙ ap (map (map without_values)) e ∙ table_none other
