-- From the laws of a redefinition to what a relocation asks and promises.
use Rattle.redef_mover.proofs.Words.{◌≡◌, ◌↔◌, ℕ, ◌<◌, ◌∙◌, ap, List, arith, filter, reverse, and_first, Header, Extra, Slab, highest_first, slabs, zero_calls, header_len, redefined, sound_end, In, IsApplied, applied_falls, applied_moved, applied_risen, applied_shifted, applied_zeros, rising_all, changes, gaps, rising, new_end, IsMoved, gap_calls, carried, carry_calls, IsCarriable, relocation_calls, nat_tests}
use Rattle.nc_base.specs.declared.script.Extra.TheVariants as extra
use Rattle.redef_laws.proofs.WrittenLaws.{written}
use Rattle.redef_mover.proofs.CarryLaws.{carried_is}
use Rattle.serial_spec.proofs.AddedLaws.{records_stay}

-- ---- the record count stays

pub same_records : (old new : Header) (extras : List Extra) → IsApplied old extras new → new.records ≡ old.records
same_records old new extras h = ap (λ (k : Header). k.records) h.made ∙ records_stay old extras

-- ---- what is proved of it

-- what is proved of a redefinition: it can be carried out, its slabs are those of the model, in the order of its calls, and a file with
-- each slab at its new place is the redefined one
pub record HasLaws (old new : Header) : Type 0 where
  pub carriable : IsCarriable old new
  pub all : (s : Slab) → In (rising old new) s ↔ In (slabs old new) s
  pub falls : highest_first (filter changes (slabs old new)) ≡ filter changes (reverse (rising old new))
  pub zeros : (z : ℕ) → 0 < z → zero_calls z old new ≡ gap_calls z (gaps (header_len new) (new_end old new) (rising old new))
  pub moved : (file left : List ℕ) → IsMoved old new file left → left ≡ redefined file old new

pub has_laws : (old new : Header) → (extras : List Extra) × IsApplied old extras new → HasLaws old new
has_laws old new (extras, h) =
    let ready = written old new extras h in
    grind (arith, nat_tests, same_records old new extras h, and_first, sound_end new old.records, applied_risen old new extras h, applied_shifted old new extras h, rising_all old new, applied_falls old new extras h, applied_zeros old new extras h, applied_moved old new extras h, h.redefinable)

-- ---- what a relocation promises

pub relocated : (old new : Header) → HasLaws old new → (file : List ℕ) → carried old new file ≡ redefined file old new
relocated old new h file = h.moved file (carried old new file) (carried_is old new file h.carriable (λ s. (h.all s).1) (λ s. (h.all s).0))

pub relocation_called : (z : ℕ) (old new : Header) (file : List ℕ) → HasLaws old new → 0 < z → carry_calls z old new file ≡ relocation_calls z old new file
relocation_called z old new file h l = grind (arith, nat_tests)
