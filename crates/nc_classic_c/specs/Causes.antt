-- Why a header is not made, as C reads it. The numbers below 0 are those of netCDF (netcdf.h, pnetcdf.h), the others (own).
--     cause_number c      the number of a cause
--     part_shown p        what is refused: its kind, its number and its owner
use Rattle.std.specs.Prelude.{ℕ, ℤ, pos, negsuc}
use Rattle.nc_classic_c.specs.declared.causes.Cause.{Cause}
use Rattle.nc_classic_c.specs.declared.causes.Cause.TheVariants as cause
use Rattle.nc_classic_c.specs.declared.causes.Part.{Part}
use Rattle.nc_classic_c.specs.declared.causes.Part.TheVariants as part
use Rattle.nc_classic_c.specs.declared.causes.NcvRefused.{NcvRefused}

abbrev pub cause_number : Cause → ℤ
cause_number cause.TooLarge = pos 3
cause_number cause.Argument = pos 4
cause_number cause.Room = pos 6
cause_number cause.Inval = negsuc 35
cause_number cause.MaxDims = negsuc 40
cause_number cause.NameInUse = negsuc 41
cause_number cause.MaxAtts = negsuc 43
cause_number cause.BadType = negsuc 44
cause_number cause.BadDim = negsuc 45
cause_number cause.UnlimPos = negsuc 46
cause_number cause.MaxVars = negsuc 47
cause_number cause.MaxName = negsuc 52
cause_number cause.Unlimit = negsuc 53
cause_number cause.BadName = negsuc 58
cause_number cause.VarSize = negsuc 61
cause_number cause.DimSize = negsuc 62
cause_number cause.StrictCdf2 = negsuc 231

abbrev pub shown : ℕ → ℕ → ℕ → NcvRefused
shown part number owner = record { part = part; number = number; owner = owner }

abbrev pub part_shown : Part → NcvRefused
part_shown part.Whole = shown 0 0 0
part_shown (part.Dim number) = shown 1 number 0
part_shown (part.Att owner number) = shown 2 number owner
part_shown (part.Var number) = shown 3 number 0
