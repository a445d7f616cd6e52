-- Entries of several requests, in any order, hold what the requests hold.
use Rattle.nc_classic_c.proofs.Words.{passes_each, ltb-true, each_in, ◌≡◌, ℕ, ◌^◌, List, true, range_with_len, IsPermutation, Owned, Key, Holds, holdings_of_entries, shared_pair_of, same_pair, extents, EndBelow, same_permuted, holder_of, holds_by, map_in, NcvHeld, holdings, ends_low, arith, nat_tests, map_map, map, In}
use Rattle.nc_classic_c.specs.Overlaps.{ends_are_low, entry}

abbrev key : Owned → Key
key o = (o.rank, o.request)

abbrev bytes : Owned → List ℕ
bytes o = range_with_len o.extent.at o.extent.len

-- ---- what they hold

held_by : (xs ys : List Owned) → ((o : Owned) → In xs o → In ys o) → (k : Key) (x : ℕ) → Holds (holdings_of_entries xs) k x → Holds (holdings_of_entries ys) k x
held_by xs ys moved k x h =
    let r = holder_of key bytes xs k x h in
    holds_by key bytes ys k x r.holder (moved r.holder r.is_one) r.rank r.request r.has

entries_hold : (held : List NcvHeld) → holdings_of_entries (map entry held) ≡ holdings held
entries_hold held = map_map (λ (o : Owned). (key o, bytes o)) entry held

pub pair_of_entries : (held : List NcvHeld) (list : List Owned) → IsPermutation (map entry held) list → shared_pair_of (holdings_of_entries list) ≡ shared_pair_of (holdings held)
pair_of_entries held list p =
    let same = same_permuted (map entry held) list p in
    grind (arith, nat_tests, same, same_pair, held_by, entries_hold)

-- ---- where they end

pub entries_low : (held : List NcvHeld) (list : List Owned) → ends_are_low held ≡ true → IsPermutation (map entry held) list → EndBelow (2 ^ 62) (extents list)
entries_low held list h p e m = grind (arith, nat_tests, same_permuted (map entry held) list p, passes_each ends_low held h, map_in, ltb-true, each_in)
