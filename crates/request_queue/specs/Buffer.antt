-- The attached buffer of a rank: PnetCDF C API reference, ncmpi_buffer_attach and ncmpi_inq_buffer_usage. The most bytes of one are (own).
--     Account       the bytes of a buffer, and those that are taken
--     Buffer        what stands under each ticket
--     new_code      how an attaching is refused
use Rattle.std.specs.Prelude.{◌≡◌, ◌<◌, ℕ, ◌+◌, List, length, sum_by, nat_lt, ◌==◌, if◌then◌else◌, Option, Some, None, slice_get}
use Rattle.nc_base.specs.declared.answer.Code.{Code}
use Rattle.nc_base.specs.declared.answer.Code.TheVariants as code
use Rattle.nc_base.specs.declared.answer.CallErr.{CallErr}
use Rattle.nc_base.specs.declared.answer.CallErr.TheVariants as refusal
use Rattle.serial_spec.specs.Limits.{most_attached}

pub record Account : Type 0 where
  pub size : ℕ
  pub used : ℕ

-- what was placed under each ticket that was given, by its number, and none once it is freed
pub record Buffer : Type 0 where
  pub size : ℕ
  pub placed : List (Option (List ℕ))

abbrev pub len_of : Option (List ℕ) → ℕ
len_of None = 0
len_of (Some bytes) = length bytes

-- the bytes that are placed and not freed
abbrev pub used : Buffer → ℕ
used buffer = sum_by len_of buffer.placed

abbrev pub unless_freed : Option (Option (List ℕ)) → Option (List ℕ)
unless_freed None = None
unless_freed (Some bytes) = bytes

-- what stands under a number
abbrev pub bytes_under : Buffer → ℕ → Option (List ℕ)
bytes_under buffer number = unless_freed (slice_get buffer.placed number)

abbrev pub new_code : ℕ → Code
new_code size = if size == 0 then code.ENullBuf else (if nat_lt most_attached size then code.ETooLarge else code.Ok)

-- an attaching is refused by its code, or by want of memory
abbrev pub IsNewRefusal : ℕ → CallErr → Type 0
IsNewRefusal size (refusal.Code c) = (c ≡ new_code size) × (c ≡ code.Ok → ⊥)
IsNewRefusal size refusal.Memory = Unit {0}

-- so many bytes are refused where they are more than are left, or by want of memory
abbrev pub IsPlaceRefusal : Buffer → ℕ → CallErr → Type 0
IsPlaceRefusal buffer len (refusal.Code c) = (c ≡ code.EInsuffBuf) × (buffer.size < used buffer + len)
IsPlaceRefusal buffer len refusal.Memory = Unit {0}
