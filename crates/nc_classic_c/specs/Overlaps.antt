-- What several requests hold, as C says it. (own)
--     holdings held             the requests with their bytes
--     ends_are_low held         every extent ends before the greatest end of a file
--     AreApart held             no two requests hold a byte in common
--     IsOverlapRefusal held r old new    why not, with the pair that is told; by any other cause none is told
use Rattle.std.specs.Prelude.{◌≡◌, ◌+◌, List, map, Bool, true, false, nat_lt, Some, None}
use Rattle.std.specs.List.{list_all, range_with_len}
use Rattle.nc_base.specs.declared.answer.Code.TheVariants as code
use Rattle.nc_base.specs.declared.answer.Pair.{Pair}
use Rattle.nc_base.specs.declared.plan.Owned.{Owned}
use Rattle.serial_spec.specs.Limits.{file_limit}
use Rattle.serial_spec.specs.SharedByte.{Holding, shared_pair_of}
use Rattle.nc_classic_c.specs.declared.answers.Refusal.{Refusal}
use Rattle.nc_classic_c.specs.declared.answers.Refusal.TheVariants as refusal
use Rattle.nc_classic_c.specs.declared.overlaps.NcvHeld.{NcvHeld}
use Rattle.nc_classic_c.specs.declared.overlaps.NcvPair.{NcvPair}

abbrev pub holdings : List NcvHeld → List Holding
holdings held = map (λ h. ((h.rank, h.request), range_with_len h.at h.len)) held

abbrev pub ends_low : NcvHeld → Bool
ends_low h = nat_lt (h.at + h.len) file_limit

abbrev pub ends_are_low : List NcvHeld → Bool
ends_are_low held = list_all ends_low held

abbrev pub entry : NcvHeld → Owned
entry h = record { extent = record { at = h.at; len = h.len }; rank = h.rank; request = h.request; slot = 0; from = 0 }

abbrev pub pair_shown : Pair → NcvPair
pair_shown p = record { at = p.at; rank1 = p.rank1; request1 = p.request1; rank2 = p.rank2; request2 = p.request2 }

abbrev pub AreApart : List NcvHeld → Type 0
AreApart held = (ends_are_low held ≡ true) × (shared_pair_of (holdings held) ≡ None)

abbrev pub IsOverlapRefusal : List NcvHeld → Refusal → NcvPair → NcvPair → Type 0
IsOverlapRefusal held refusal.Memory old new = new ≡ old
IsOverlapRefusal held (refusal.Asked c) old new = (c ≡ code.ETooLarge) × (ends_are_low held ≡ false) × (new ≡ old)
IsOverlapRefusal held refusal.Shared old new = (p : Pair) × (shared_pair_of (holdings held) ≡ Some p) × (new ≡ pair_shown p)
IsOverlapRefusal held _ old new = ⊥
