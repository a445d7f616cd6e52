-- The messages of a window carry its pieces.
use Rattle.put_exchange.proofs.Words.{◌≡◌, ℕ, ◌+◌, refl, ap, List, [], ◌∷◌, ◌++◌, length, map, cond, arith, lt-ltb, map-append, filter, flat_map, nat_lt, range_with_len, Owned, Cell, Source, AreServed, of_rank, pieces_in, Told, cells_in, has_pieces, hull_of, messages_in, sent, sent_by, Sent, pieces_in_all, AreFor, Carry, nat_tests}
use Rattle.put_exchange.proofs.PieceLaws.{rank_served}

-- ---- the entries that a walk gives with a window

sent_served : (source : Source) (list begun : List Owned) (t : Told) (r : ℕ) → AreServed list begun t.0 (t.0 + t.1) → sent_by source begun t r ≡ sent_by source list t r
sent_served source list begun t r s = ap (λ (os : List Owned). record { hull = hull_of t; rank = r; pieces = cells_in source t os }) (rank_served list begun t.0 (t.0 + t.1) r s)

pub messages_served : (source : Source) (ranks : ℕ) (list begun : List Owned) (t : Told) → AreServed list begun t.0 (t.0 + t.1)
    → messages_in source ranks begun t ≡ messages_in source ranks list t
messages_served source ranks list begun t s = λ i. filter has_pieces (map (λ r. sent_served source list begun t r s i) (range_with_len 0 ranks))

-- ---- what they carry

pub cells_joined : (source : Source) (t : Told) (xs ys : List Owned) → cells_in source t (xs ++ ys) ≡ cells_in source t xs ++ cells_in source t ys
cells_joined source t xs ys = grind (arith, nat_tests, map-append)

-- a message without a piece carries nothing
first_message : (t : Told) (r : ℕ) (cells : List Cell) (rest : List Sent) → pieces_in_all (cond (nat_lt 0 (length cells)) (sent (hull_of t) r cells ∷ rest) rest) ≡ cells ++ pieces_in_all rest
first_message t r [] rest = refl
first_message t r (c ∷ cells) rest = grind (arith, nat_tests, lt-ltb 0 (length (c ∷ cells)) (omega arith))

carried : (source : Source) (list : List Owned) (t : Told) (ranks : List ℕ)
    → pieces_in_all (filter has_pieces (map (λ r. sent_by source list t r) ranks)) ≡ cells_in source t (flat_map (λ r. of_rank t.0 (t.0 + t.1) r list) ranks)
carried source list t [] = refl
carried source list t (r ∷ ranks) = grind (arith, nat_tests, carried source list t ranks, first_message, cells_joined)

for_hull : (source : Source) (list : List Owned) (t : Told) (ranks : List ℕ) → AreFor (hull_of t) (filter has_pieces (map (λ r. sent_by source list t r) ranks))
for_hull source list t [] m h = absurd h
for_hull source list t (r ∷ ranks) m h = grind (arith, nat_tests, for_hull source list t ranks m)

pub messages_carry : (source : Source) (ranks : ℕ) (list : List Owned) (t : Told) → Carry source t (pieces_in ranks list t) (messages_in source ranks list t)
messages_carry source ranks list t = record { hull = for_hull source list t (range_with_len 0 ranks); cells = carried source list t (range_with_len 0 ranks) }
