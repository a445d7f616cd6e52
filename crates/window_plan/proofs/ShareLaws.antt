-- The shares of ranks, counted one owner after another.
use Rattle.window_plan.proofs.Words.{◌≡◌, ℕ, ◌+◌, ◌-◌, ◌^◌, ◌<◌, List, [], ◌∷◌, ◌++◌, length, take, get_or, max, min, arith, flat_map_more, take_more, range_with_len, bytes_for, own_bytes, ranks_in, share_of, Owner, Share, flat_map}
use Rattle.list_laws.proofs.Ranges.{range_next}

bytes_joined : (rank : ℕ) (owners : List Owner) (o : Owner) → bytes_for rank (owners ++ o ∷ []) ≡ bytes_for rank owners + own_bytes rank o
bytes_joined rank [] o = omega arith
bytes_joined rank (x ∷ owners) o = let rest = bytes_joined rank owners o in omega arith

pub share_more : (owners : List Owner) (i : ℕ) (none : Owner) (rank bytes own now : ℕ) → i < length owners → bytes ≡ share_of (take i owners) rank
    → own ≡ own_bytes rank (get_or owners i none) → now ≡ min (bytes + own) (2 ^ 64 - 1) → now ≡ share_of (take (i + 1) owners) rank
share_more owners i none rank bytes own now l before is sum = grind (arith, take_more owners i none l, bytes_joined rank (take i owners) (get_or owners i none))

ranks_joined : (owners : List Owner) (o : Owner) → ranks_in (owners ++ o ∷ []) ≡ max (ranks_in owners) (o.rank + 1)
ranks_joined [] o = omega arith
ranks_joined (x ∷ owners) o = let rest = ranks_joined owners o in omega arith

pub ranks_more : (owners : List Owner) (i : ℕ) (none : Owner) (ranks now : ℕ) → i < length owners → ranks ≡ ranks_in (take i owners)
    → now ≡ max ranks ((get_or owners i none).rank + 1) → now ≡ ranks_in (take (i + 1) owners)
ranks_more owners i none ranks now l before is = grind (arith, take_more owners i none l, ranks_joined (take i owners) (get_or owners i none))

pub shares_more : (f : ℕ → List Share) (n : ℕ) (old new : List Share) → old ≡ flat_map f (range_with_len 0 n) → new ≡ old ++ f n → new ≡ flat_map f (range_with_len 0 (n + 1))
shares_more f n old new before more = grind (arith, flat_map_more f [] (range_with_len 0 n) n, range_next n)
