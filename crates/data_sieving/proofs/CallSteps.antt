-- The calls that were done, and those that are left.
use Rattle.data_sieving.proofs.Words.{◌+◌, List, ◌++◌, length, min, Option, append_assoc, arith, take_at, drop_at, take_min, take-append-le, take-add, option_map, DiskCall, with_end, IsBegun, HasDone, nat_tests}

-- what was begun of the next calls is a beginning of the plan
pub done_begun : (plan calls rest : List DiskCall) (old mid now : Option (List DiskCall)) → HasDone plan (calls ++ rest) old mid → IsBegun calls mid now → IsBegun plan old now
done_begun plan calls rest old mid now h b =
    let n = min b.0 (length calls) in (
      length h.done + n,
      grind (arith, nat_tests, b.1, h.told, h.whole, append_assoc, take-add (length h.done) n (h.done ++ calls ++ rest), take_at h.done (calls ++ rest), drop_at h.done (calls ++ rest), take-append-le n calls rest, take_min b.0 calls, with_end, option_map),
    )

pub none_begun : (plan rest : List DiskCall) (old now : Option (List DiskCall)) → HasDone plan rest old now → IsBegun plan old now
none_begun plan rest old now h = (length h.done, grind (arith, nat_tests, h.told, h.whole, take_at h.done rest))
