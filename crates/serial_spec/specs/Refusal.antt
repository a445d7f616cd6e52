-- How the layers refuse a call. (own)
--     IsRefusal code e      the error is this code, which is none of Ok, or is want of memory
use Rattle.std.specs.Prelude.{◌≡◌}
use Rattle.nc_base.specs.declared.answer.Code.{Code}
use Rattle.nc_base.specs.declared.answer.Code.TheVariants as code
use Rattle.nc_base.specs.declared.answer.CallErr.{CallErr}
use Rattle.nc_base.specs.declared.answer.CallErr.TheVariants as refusal

abbrev pub IsRefusal : Code → CallErr → Type 0
IsRefusal c (refusal.Code d) = (d ≡ c) × (d ≡ code.Ok → ⊥)
IsRefusal c refusal.Memory = Unit {0}
