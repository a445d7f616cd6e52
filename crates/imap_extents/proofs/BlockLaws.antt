-- Lists that are made a block at a time.
use Rattle.imap_extents.proofs.Cited.{◌≡◌, ℕ, ◌+◌, ◌<◌, refl, arith, List, ◌++◌, length, map, take, set, append_assoc, flat_map, range_with_len, take_more_set, flat_map-append, flat_map-map, map-range_with_len_more, range_append, nat_tests}

-- one element more is written
pub written_more : {X : Type 0} (f : ℕ → X) (s i : ℕ) (xs : List X) (y : X) → i < length xs → take i xs ≡ map f (range_with_len s i) → y ≡ f (s + i)
    → take (i + 1) (set xs i y) ≡ map f (range_with_len s (i + 1))
written_more f s i xs y room before is = rw (take_more_set xs i y room, before, is, map-range_with_len_more f s i (s + i) refl) refl

-- the bytes of a block
pub block_bytes : (f : ℕ → List ℕ) (forms : List (List ℕ)) (s n m : ℕ) → forms ≡ map f (range_with_len s m) → m ≡ n
    → flat_map (λ form. form) forms ≡ flat_map f (range_with_len s n)
block_bytes f forms s n m is long = rw (is, flat_map-map (λ form. form) f (range_with_len s m), long) refl

-- one block more
pub blocks_more : (f : ℕ → List ℕ) (old now new : List ℕ) (done here : ℕ) → now ≡ old ++ flat_map f (range_with_len 0 done)
    → new ≡ now ++ flat_map f (range_with_len done here) → new ≡ old ++ flat_map f (range_with_len 0 (done + here))
blocks_more f old now new done here before added = grind (arith, nat_tests, range_append 0 done here, flat_map-append, append_assoc)
