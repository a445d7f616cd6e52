-- The pieces of a window are those of the entries that a walk gives with it, and have each covered byte of it.
use Rattle.put_exchange.proofs.Words.{◌≡◌, ℕ, ◌+◌, ◌<◌, ◌≤◌, inl, inr, refl, sym, ap, List, [], ◌∷◌, Bool, false, ◌&&◌, arith, nat_lt, ◌==◌, and_right, le-ltb, Owned, In, Source, AreFound, in_flat, flat_in, in_range, equal_true, in_filter, filter_in, filter_none, IsCovered, past_same, meets, of_rank, pieces_in, ArePieces, Told, AreServed, in_served, served_in, nat_tests, common_steps}
use Rattle.put_exchange.proofs.PutLaws.{ArePicked}

-- ---- tests

-- an entry that ends before a window, or begins after it, has no byte in it
ended_out : (lo hi : ℕ) (o : Owned) → o.extent.at + o.extent.len ≤ lo → meets lo hi o ≡ false
ended_out lo hi o h = and_right (nat_lt o.extent.at hi) (nat_lt lo (o.extent.at + o.extent.len)) (le-ltb lo (o.extent.at + o.extent.len) h)

later_out : (lo hi : ℕ) (o : Owned) → hi ≤ o.extent.at → meets lo hi o ≡ false
later_out lo hi o h = ap (λ (t : Bool). t && nat_lt lo (o.extent.at + o.extent.len)) (le-ltb o.extent.at hi h)

-- ---- the pieces of a window

pub rank_served : (list begun : List Owned) (lo hi r : ℕ) → AreServed list begun lo hi → of_rank lo hi r begun ≡ of_rank lo hi r list
rank_served list begun lo hi r s =
    sym (grind (arith, common_steps, past_same t lo list s.left (λ o e. and_right (o.rank == r) (meets lo hi o) (ended_out lo hi o e)) s.past, ended_out lo hi, filter_none t s.front.rest (λ o m. and_right (o.rank == r) (meets lo hi o) (later_out lo hi o (s.front.later o m))), later_out lo hi))
  where
    t : Owned → Bool
    t o = o.rank == r && meets lo hi o

piece_from : (ranks : ℕ) (list : List Owned) (t : Told) (o : Owned) → In (pieces_in ranks list t) o → In list o
piece_from ranks list t o m = grind (arith, nat_tests, flat_in, filter_in)

pub pieces_are : (source : Source) (ranks : ℕ) (list : List Owned) (t : Told) → ArePieces source list → ArePieces source (pieces_in ranks list t)
pieces_are source ranks list t h o m = h o (piece_from ranks list t o m)

pub pieces_found : (source : Source) (list : List Owned) → ArePieces source list → AreFound source list
pieces_found source [] h = tt
pieces_found source (o ∷ list) h = ((h o (inl refl)).found, pieces_found source list (λ p m. h p (inr m)))

in_pieces : (ranks : ℕ) (list : List Owned) (t : Told) (o : Owned) → In list o → o.rank < ranks → o.extent.at < t.0 + t.1 → t.0 < o.extent.at + o.extent.len
    → In (pieces_in ranks list t) o
in_pieces ranks list t o m r b e = grind (arith, nat_tests, in_flat, in_range 0 ranks o.rank, in_filter, equal_true o.rank o.rank)

pub pieces_picked : (ranks : ℕ) (list : List Owned) (t : Told) → ((o : Owned) → In list o → o.rank < ranks) → ArePicked list t (pieces_in ranks list t)
pieces_picked ranks list t below = grind (arith, nat_tests, piece_from, in_pieces)

pub pieces_covered : (ranks : ℕ) (list : List Owned) (t : Told) (x : ℕ) → ((o : Owned) → In list o → o.rank < ranks) → t.0 ≤ x → x < t.0 + t.1 → IsCovered list x
    → IsCovered (pieces_in ranks list t) x
pieces_covered ranks list t x below l h c = grind (arith, nat_tests, in_pieces ranks list t c.by c.inside (below c.by c.inside) (omega arith) (omega arith))

pub served_picked : (list begun : List Owned) (t : Told) → AreServed list begun t.0 (t.0 + t.1) → ArePicked list t begun
served_picked list begun t s = grind (arith, nat_tests, served_in list begun t.0 (t.0 + t.1), in_served list begun t.0 (t.0 + t.1))
