-- The bytes of a header that is written: netCDF classic format specification, "The format in detail" (the BNF), with the
-- widths of CDF-1, CDF-2 and CDF-5.
--     canon header             its bytes, with zero padding, absent empty lists and the vsizes of the layout
--     header_len header        how many they are
use Rattle.std.specs.Prelude.{codes, ℕ, ◌-◌, List, [], ◌∷◌, ◌++◌, length, replicate, Bool, ◌||◌, ◌==◌, if◌then◌else◌}
use Rattle.std.specs.List.{flat_map}
use Rattle.std.specs.Int.{Width, w32, w64, to_be_bytes}
use Rattle.nc_base.specs.declared.header.Header.{Header}
use Rattle.nc_base.specs.declared.header.Dim.{Dim}
use Rattle.nc_base.specs.declared.header.Attr.{Attr}
use Rattle.nc_base.specs.declared.header.Var.{Var}
use Rattle.nc_base.specs.declared.header.NcType.{NcType}
use Rattle.nc_base.specs.declared.header.NcType.TheVariants.{Byte, Char, Short, Int, Float, Double, UByte, UShort, UInt, Int64, UInt64}
use Rattle.serial_spec.specs.Layout.{round_up, vsize}

-- ---- widths and numbers

-- of counts, lengths, dimension ids, numrecs and vsize
abbrev pub count_width : ℕ → Width
count_width version = if version == 5 then w64 else w32

abbrev pub begin_width : ℕ → Width
begin_width version = if version == 1 then w32 else w64

abbrev pub number_of : NcType → ℕ
number_of Byte = 1
number_of Char = 2
number_of Short = 3
number_of Int = 4
number_of Float = 5
number_of Double = 6
number_of UByte = 7
number_of UShort = 8
number_of UInt = 9
number_of Int64 = 10
number_of UInt64 = 11

-- the greatest type number of the version
abbrev pub last_type : ℕ → ℕ
last_type version = if version == 5 then 11 else 6

abbrev pub is_version : ℕ → Bool
is_version version = version == 1 || version == 2 || version == 5

-- ---- the one spelling that is written

abbrev pub padded : List ℕ → List ℕ
padded bytes = bytes ++ replicate (round_up 4 (length bytes) - length bytes) 0

abbrev pub count : ℕ → ℕ → List ℕ
count version n = to_be_bytes (count_width version) n

-- NC_DIMENSION, NC_VARIABLE and NC_ATTRIBUTE
abbrev pub dimension_tag : ℕ
dimension_tag = 10

abbrev pub variable_tag : ℕ
variable_tag = 11

abbrev pub attribute_tag : ℕ
attribute_tag = 12

abbrev pub tag : ℕ → List ℕ
tag n = to_be_bytes w32 n

abbrev pub name : ℕ → List ℕ → List ℕ
name version n = count version (length n) ++ padded n

abbrev pub list_of : {A : Type 0} → ℕ → ℕ → (A → List ℕ) → List A → List ℕ
list_of version t entry [] = tag 0 ++ count version 0
list_of version t entry (x ∷ xs) = tag t ++ count version (length (x ∷ xs)) ++ flat_map entry (x ∷ xs)

abbrev pub dimension : ℕ → Dim → List ℕ
dimension version d = name version d.name ++ count version d.len

abbrev pub attribute : ℕ → Attr → List ℕ
attribute version a = name version a.name ++ tag (number_of a.kind) ++ count version a.count ++ padded a.bytes

abbrev pub variable : Header → Var → List ℕ
variable header v =
    name header.version v.name
    ++ count header.version (length v.dims) ++ flat_map (λ id. count header.version id) v.dims
    ++ list_of header.version attribute_tag (λ a. attribute header.version a) v.attrs
    ++ tag (number_of v.kind) ++ count header.version (vsize header v)
    ++ to_be_bytes (begin_width header.version) v.begin

abbrev pub magic : ℕ → List ℕ
magic version = codes "CDF" ++ version ∷ []

-- It stays closed where no proof opens it, so that goals show `canon header` and not its bytes.
unfoldable pub canon : Header → List ℕ
canon header =
    magic header.version ++ count header.version header.records
    ++ list_of header.version dimension_tag (λ d. dimension header.version d) header.dims
    ++ list_of header.version attribute_tag (λ a. attribute header.version a) header.attrs
    ++ list_of header.version variable_tag (λ v. variable header v) header.vars

abbrev pub header_len : Header → ℕ
header_len header = length (canon header)
