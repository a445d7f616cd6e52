-- What the number that a call answers says. The numbers below 0 are those of netCDF (netcdf.h), the others (own).
--     number_of r                 the number of a refusal
--     refusal_of e                the refusal by a header's fault
--     IsAnswer n ok refused       n is 0 and `ok` holds, or n is the number of a refusal of which `refused` holds
use Rattle.std.specs.Prelude.{◌≡◌, ◌⊎◌, ℤ, pos, negsuc}
use Rattle.nc_base.specs.declared.answer.Code.{Code}
use Rattle.nc_base.specs.declared.answer.Code.TheVariants as code
use Rattle.nc_base.specs.declared.errors.HeaderErr.{HeaderErr}
use Rattle.nc_base.specs.declared.errors.HeaderErr.TheVariants as fault
use Rattle.nc_classic_c.specs.declared.answers.Refusal.{Refusal}
use Rattle.nc_classic_c.specs.declared.answers.Refusal.TheVariants as refusal
use Rattle.nc_classic_c.specs.Causes.{cause_number}

-- a code that no call of the library gives has number 4
abbrev pub code_number : Code → ℤ
code_number code.EInvalCoords = negsuc 39
code_number code.EBadType = negsuc 44
code_number code.ENotVar = negsuc 48
code_number code.EChar = negsuc 55
code_number code.EEdge = negsuc 56
code_number code.EStride = negsuc 57
code_number code.EBadDim = negsuc 45
code_number code.ETooLarge = pos 3
code_number _ = pos 4

abbrev pub number_of : Refusal → ℤ
number_of refusal.Memory = pos 1
number_of (refusal.Header e) = pos 2
number_of (refusal.Asked c) = code_number c
number_of refusal.NoAttribute = negsuc 42
number_of refusal.Shared = pos 5
number_of (refusal.Range k) = negsuc 59
number_of (refusal.Unmade u) = cause_number u.cause

-- want of memory is no fault of the bytes
abbrev pub refusal_of : HeaderErr → Refusal
refusal_of fault.Memory = refusal.Memory
refusal_of e = refusal.Header e

abbrev pub IsAnswer : ℤ → Type 0 → (Refusal → Type 0) → Type 0
IsAnswer n ok refused = ((n ≡ pos 0) × ok) ⊎ ((r : Refusal) × (n ≡ number_of r) × refused r)
