-- Worked examples at the ends of ranges: types one by one, variables side by side, begins, lengths and counts just within their bounds.
use Rattle.std.specs.Prelude.{ℕ, List, [], ◌∷◌, ◌++◌, ◌*◌, codes, map, replicate, take}
use Rattle.nc_base.specs.declared.header.Attr.{Attr}
use Rattle.nc_base.specs.declared.header.Header.{Header}
use Rattle.nc_base.specs.declared.header.NcType.{NcType}
use Rattle.nc_base.specs.declared.header.NcType.TheVariants.{Byte, Char, Short, Int, Float, Double, UByte, UShort, UInt, Int64, UInt64}
use Rattle.nc_base.specs.declared.header.Var.{Var}
use Rattle.nc_base.specs.declared.request.Form.TheVariants as form
use Rattle.nc_base.specs.declared.script.Script.{Script}
use Rattle.serial_spec.specs.Examples.{dataset_5, dataset_a, dataset_b, dataset_b_4, defined, dim, given, header_a, hints, int_bytes, laid_out, put_all, script_on, striped_part, var}
use Rattle.serial_spec.specs.ExternalForm.{size_of}
use Rattle.serial_spec.specs.HeaderBytes.{canon}

-- ---- types

-- in the order of their numbers
abbrev pub each_type : List NcType
each_type = Byte ∷ Char ∷ Short ∷ Int ∷ Float ∷ Double ∷ UByte ∷ UShort ∷ UInt ∷ Int64 ∷ UInt64 ∷ []

abbrev pub attribute : List ℕ → NcType → ℕ → List ℕ → Attr
attribute name kind count bytes = record { name = name; kind = kind; count = count; bytes = bytes }

abbrev pub three_values : NcType → Attr
three_values kind = attribute (codes "abc") kind 3 (replicate (3 * size_of kind) 255)

-- version 5, with an attribute of three values of each type
abbrev pub attributes_5 : Header
attributes_5 = record dataset_5 { attrs = map three_values each_type }

-- A with an attribute of two doubles, whose values begin at byte 52
abbrev pub attribute_a : Header
attribute_a = record dataset_a { attrs = attribute (codes "a") Double 2 (replicate 16 1) ∷ [] }

-- a short variable whose attributes are no fill value: two values, a value of another type, a value of another name
abbrev pub without_fill_value : Var
without_fill_value =
    record (var 118 Short []) {
      attrs =
          attribute (codes "_FillValue") Short 2 (0 ∷ 1 ∷ 0 ∷ 2 ∷ []) ∷ attribute (codes "_FillValue") Byte 1 (7 ∷ [])
          ∷ attribute (codes "x") Short 1 (0 ∷ 3 ∷ []) ∷ [];
    }

-- ---- variables side by side

-- the variable with this begin
abbrev pub var_at : ℕ → NcType → List ℕ → ℕ → Var
var_at letter kind dims begin = record (var letter kind dims) { begin = begin }

-- dim t unlimited, var short s [t], var int q [t]: records of 8 bytes
abbrev pub two_records_at : ℕ → ℕ → Header
two_records_at s q = defined 1 (dim 116 0 ∷ []) (var_at 115 Short (0 ∷ []) s ∷ var_at 113 Int (0 ∷ []) q ∷ [])

-- dim t unlimited, dim x 4, var int v [x], var int q [t]
abbrev pub fixed_and_record_at : ℕ → ℕ → Header
fixed_and_record_at v q = defined 1 (dim 116 0 ∷ dim 120 4 ∷ []) (var_at 118 Int (1 ∷ []) v ∷ var_at 113 Int (0 ∷ []) q ∷ [])

-- dim x 4, var int v [x], var int w [x]
abbrev pub two_fixed_at : ℕ → ℕ → Header
two_fixed_at v w = defined 1 (dim 120 4 ∷ []) (var_at 118 Int (0 ∷ []) v ∷ var_at 119 Int (0 ∷ []) w ∷ [])

-- dim x 4, var int u [x] at 100, var int v [x] at 116, var int w [x] at 108, which meets both
abbrev pub met_by_the_last : Header
met_by_the_last = defined 1 (dim 120 4 ∷ []) (var_at 117 Int (0 ∷ []) 100 ∷ var_at 118 Int (0 ∷ []) 116 ∷ var_at 119 Int (0 ∷ []) 108 ∷ [])

-- dim t unlimited, var int q [t], var short s [t]
abbrev pub dataset_qs : Header
dataset_qs = laid_out (defined 1 (dim 116 0 ∷ []) (var 113 Int (0 ∷ []) ∷ var 115 Short (0 ∷ []) ∷ []))

-- ---- bounds

-- version 5, dim x 4, var byte v [x]
abbrev pub four_bytes_at : ℕ → Header
four_bytes_at begin = defined 5 (dim 120 4 ∷ []) (var_at 118 Byte (0 ∷ []) begin ∷ [])

-- version 5, dim t unlimited, var byte v [t] at 200, with so many records
abbrev pub byte_records : ℕ → Header
byte_records n = record (defined 5 (dim 116 0 ∷ []) (var_at 118 Byte (0 ∷ []) 200 ∷ [])) { records = n }

-- the front of a header of version 5, to its dimension's length, which is 2^62 and so much more
abbrev pub length_past : ℕ → List ℕ
length_past more = take 36 (canon dataset_5) ++ 64 ∷ replicate 6 0 ++ more ∷ []

-- version 1, dim x n, var byte a [x], var byte b []
abbrev pub scalar_behind : ℕ → Header
scalar_behind n = defined 1 (dim 120 n ∷ []) (var 97 Byte (0 ∷ []) ∷ var 98 Byte [] ∷ [])

-- version 5, dim x n, var byte a [x]
abbrev pub bytes_5 : ℕ → Header
bytes_5 n = defined 5 (dim 120 n ∷ []) (var 97 Byte (0 ∷ []) ∷ [])

-- ---- datasets as another writer leaves them

-- A with v here
abbrev pub dataset_a_at : ℕ → Header
dataset_a_at begin = record dataset_a { vars = var_at 118 Int (0 ∷ []) begin ∷ [] }

-- B with four records and room behind its header
abbrev pub dataset_b_moved : Header
dataset_b_moved = record dataset_b_4 { vars = var_at 115 Short (0 ∷ []) 512 ∷ [] }

-- ---- runs

-- the elements 1 to 3, from byte 84 on, under a striping unit of two elements
abbrev pub striped_inside : Script
striped_inside = record striped_part { hints = record striped_part.hints { striping_unit = 8 } }

-- one rank, record 1 and then record 3 of B
abbrev pub two_puts : Script
two_puts =
    script_on dataset_b (hints 1 16777216) ((put_all 115 (given form.Var1 (1 ∷ []) [] []) (5 ∷ []) ∷ put_all 115 (given form.Var1 (3 ∷ []) [] []) (7 ∷ []) ∷ []) ∷ [])

-- one rank, the whole variable and then its first and last element, in windows of 16 bytes
abbrev pub whole_then_ends : Script
whole_then_ends =
    script_on dataset_a (hints 1 16) ((put_all 118 (given form.Var [] [] []) (1 ∷ 2 ∷ 3 ∷ 4 ∷ []) ∷ put_all 118 (given form.Vars (0 ∷ []) (2 ∷ []) (3 ∷ [])) (7 ∷ 8 ∷ []) ∷ []) ∷ [])

-- A's file with these elements
abbrev pub file_a : List ℕ → List ℕ
file_a ns = header_a ++ int_bytes ns
