-- The fault of a header, as C reads it. (own)
--     fault_shown e        its kind, with the place or the variables that belong to it
--     fault_told r old     what C reads after a refusal: the fault where there is one, else what was there
use Rattle.std.specs.Prelude.{ℕ}
use Rattle.nc_base.specs.declared.errors.HeaderErr.{HeaderErr}
use Rattle.nc_base.specs.declared.errors.HeaderErr.TheVariants as fault
use Rattle.nc_classic_c.specs.declared.answers.Refusal.{Refusal}
use Rattle.nc_classic_c.specs.declared.answers.Refusal.TheVariants as refusal
use Rattle.nc_classic_c.specs.declared.faults.NcvFault.{NcvFault}

abbrev pub shown : ℕ → ℕ → ℕ → NcvFault
shown kind place other = record { kind = kind; place = place; other = other }

-- want of memory is no fault of the bytes
abbrev pub fault_shown : HeaderErr → NcvFault
fault_shown fault.Memory = shown 0 0 0
fault_shown fault.NotCdf = shown 1 0 0
fault_shown fault.BadVersion = shown 2 0 0
fault_shown (fault.Truncated x) = shown 3 x 0
fault_shown (fault.BadTag x) = shown 4 x 0
fault_shown (fault.BadType x) = shown 5 x 0
fault_shown (fault.BadNumber x) = shown 6 x 0
fault_shown fault.TwoRecordDims = shown 7 0 0
fault_shown (fault.RecordDimNotFirst k) = shown 8 k 0
fault_shown (fault.BadDimId k) = shown 9 k 0
fault_shown fault.Streaming = shown 10 0 0
fault_shown fault.TooLarge = shown 11 0 0
fault_shown (fault.Shared j k) = shown 12 j k

abbrev pub fault_told : Refusal → NcvFault → NcvFault
fault_told (refusal.Header e) old = fault_shown e
fault_told _ old = old
