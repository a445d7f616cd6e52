-- The laws of an accepted redefinition.
use Rattle.redef_laws.proofs.Words.{◌≡◌, ℕ, ◌<◌, List, filter, flat_map, reverse, Header, Extra, DiskCall, highest_first, slabs, stores, zero_calls, header_len, redefined, IsApplied, changes, gaps, rising, IsRisen, new_end, AreShifted, IsMoved}
use Rattle.redef_laws.proofs.MovedLaws.{moved_is_redefined, writable_is_sound}
use Rattle.redef_laws.proofs.RisingLaws.{rising_risen, rising_falls, rising_zeros}
use Rattle.redef_laws.proofs.ShiftLaws.{applied_raised}
use Rattle.redef_laws.proofs.SlabLaws.{IsRaised}
use Rattle.redef_laws.proofs.SlabOrder.{raised_shifts}
use Rattle.redef_laws.proofs.WrittenLaws.{written}

module _ (old new : Header) (extras : List Extra) (applied : IsApplied old extras new) where
  raised : IsRaised old new
  raised = applied_raised old new extras applied (writable_is_sound new (written old new extras applied))

  pub applied_shifted : AreShifted (header_len old) (header_len new) (new_end old new) (slabs old new)
  applied_shifted = raised_shifts old new raised

  pub applied_risen : IsRisen (header_len old) (header_len new) (rising old new)
  applied_risen = rising_risen old new raised

  pub applied_falls : highest_first (filter changes (slabs old new)) ≡ filter changes (reverse (rising old new))
  applied_falls = rising_falls old new raised

  pub applied_zeros : (z : ℕ) → 0 < z → zero_calls z old new ≡ flat_map {A = DiskCall} (λ g. stores z g.0 g.1) (gaps (header_len new) (new_end old new) (rising old new))
  applied_zeros z some = rising_zeros old new raised z some

  pub applied_moved : (file left : List ℕ) → IsMoved old new file left → left ≡ redefined file old new
  applied_moved file left m = moved_is_redefined old new extras file left (writable_is_sound new (written old new extras applied)) applied m
