-- Names of dimensions, variables and attributes: netCDF classic format specification, "namestring", with the length that netCDF
-- allows (netcdf.h, NC_MAX_NAME). Names are taken as they are: two that differ in a byte are two names.
--     is_name name         a right one, apart from its length
--     name_cause name      what is wrong with it
use Rattle.std.specs.Prelude.{ℕ, ◌-◌, List, length, slice_index, Bool, not, ◌&&◌, ◌||◌, nat_lt, nat_le, ◌==◌, if◌then◌else◌, Option, Some, None}
use Rattle.std.specs.List.{list_all}
use Rattle.std.specs.Str.Lossy.{utf8_valid_len}
use Rattle.nc_classic_c.specs.declared.causes.Cause.{Cause}
use Rattle.nc_classic_c.specs.declared.causes.Cause.TheVariants as cause

abbrev pub most_name : ℕ
most_name = 256

abbrev pub is_between : ℕ → ℕ → ℕ → Bool
is_between low high c = nat_le low c && nat_le c high

-- a letter, a digit, an underscore (95) or a character beyond ASCII
abbrev pub starts_name : ℕ → Bool
starts_name c = is_between 65 90 c || is_between 97 122 c || is_between 48 57 c || c == 95 || nat_le 128 c

-- neither a control character (127 is one) nor a slash (47)
abbrev pub in_name : ℕ → Bool
in_name c = nat_le 32 c && not (c == 47) && not (c == 127)

abbrev pub is_utf8 : List ℕ → Bool
is_utf8 bytes = utf8_valid_len bytes == length bytes

-- of a byte or more; the last one is no space (32)
abbrev pub is_name : List ℕ → Bool
is_name name =
    starts_name (slice_index name 0) && not (slice_index name (length name - 1) == 32) && list_all in_name name && is_utf8 name

abbrev pub name_cause : List ℕ → Option Cause
name_cause name =
    if length name == 0 then Some cause.BadName
    else (if nat_lt most_name (length name) then Some cause.MaxName
    else (if is_name name then None
    else Some cause.BadName))
