-- Values in external form, as C asks for them. (own; the forms and ranges of the types are those of serial_spec)
--     type_of n                   the type of a number of the file format, where one has it
--     integer_type n              the same, where its values are whole numbers, or why they are not
--     integers, counts            C's signed and unsigned numbers as values; patterns: those of floats
--     packed kind vs              the bytes of values, one after another
--     values_of kind n bytes      the values of so many bytes
--     first_out kind vs           the number of the first value that is not in the range of the type
--     pack kind vs len            the bytes of the values, which are `len`, or why there are none
--     unpack memory kind bytes n  the n values of the bytes, which words of a type hold, or why not
--     pack_patterns, unpack_patterns     the same of floats and doubles, which are always in their range
--     of_type t f                 those of a type, where there is one
--     range_told r old            what C reads of the value that is refused: its number, else what was there
use Rattle.std.specs.Prelude.{ℕ, ◌*◌, ℤ, pos, List, map, flat_map, length, take, drop, position, Bool, not, ◌==◌, if◌then◌else◌, Option, Some, None, Result, Ok, Err}
use Rattle.std.specs.List.{find, range_with_len}
use Rattle.nc_base.specs.declared.answer.Code.TheVariants as code
use Rattle.nc_base.specs.declared.header.NcType.{NcType}
use Rattle.nc_base.specs.declared.header.NcType.TheVariants.{Char, Float, Double}
use Rattle.nc_base.specs.declared.request.Value.{Value}
use Rattle.nc_base.specs.declared.request.Value.TheVariants as value
use Rattle.serial_spec.specs.ExternalForm.{types, size_of, fits, ext, val}
use Rattle.serial_spec.specs.HeaderBytes.{number_of}
use Rattle.nc_classic_c.specs.declared.answers.Refusal.{Refusal}
use Rattle.nc_classic_c.specs.declared.answers.Refusal.TheVariants as refusal

-- ---- types

abbrev pub type_of : ℕ → Option NcType
type_of n = find (λ kind. number_of kind == n) types

abbrev pub with_integers : Option NcType → Result NcType Refusal
with_integers None = Err (refusal.Asked code.EBadType)
with_integers (Some Char) = Err (refusal.Asked code.EChar)
with_integers (Some Float) = Err (refusal.Asked code.EBadType)
with_integers (Some Double) = Err (refusal.Asked code.EBadType)
with_integers (Some kind) = Ok kind

abbrev pub integer_type : ℕ → Result NcType Refusal
integer_type n = with_integers (type_of n)

-- ---- values

abbrev pub integers : List ℤ → List Value
integers zs = map (λ z. value.Number z) zs

abbrev pub counts : List ℕ → List Value
counts ns = map (λ n. value.Number (pos n)) ns

abbrev pub patterns : List ℕ → List Value
patterns ns = map (λ n. value.Bits n) ns

abbrev pub first_out : NcType → List Value → Option ℕ
first_out kind vs = position (λ v. not (fits kind v)) vs

abbrev pub packed : NcType → List Value → List ℕ
packed kind vs = flat_map (λ v. ext kind v) vs

abbrev pub values_of : NcType → ℕ → List ℕ → List Value
values_of kind n bytes = map (λ k. val kind (take (size_of kind) (drop (k * size_of kind) bytes))) (range_with_len 0 n)

-- ---- what is asked for

-- so many values have so many bytes
abbrev pub is_length : NcType → ℕ → ℕ → Bool
is_length kind n len = n * size_of kind == len

abbrev pub in_range : {X : Type 0} → Option ℕ → X → Result X Refusal
in_range None x = Ok x
in_range (Some k) x = Err (refusal.Range k)

abbrev pub if_length : {X : Type 0} → NcType → ℕ → ℕ → Result X Refusal → Result X Refusal
if_length kind n len r = if is_length kind n len then r else Err (refusal.Asked code.EInvalRequest)

abbrev pub pack : NcType → List Value → ℕ → Result (List ℕ) Refusal
pack kind vs len = if_length kind (length vs) len (in_range (first_out kind vs) (packed kind vs))

abbrev pub unpack : NcType → NcType → List ℕ → ℕ → Result (List Value) Refusal
unpack memory kind bytes n = if_length kind n (length bytes) (in_range (first_out memory (values_of kind n bytes)) (values_of kind n bytes))

-- those of floats, of which each is in the range
abbrev pub pack_patterns : NcType → List ℕ → ℕ → Result (List ℕ) Refusal
pack_patterns kind ns len = if_length kind (length ns) len (Ok (packed kind (patterns ns)))

abbrev pub unpack_patterns : NcType → List ℕ → ℕ → Result (List Value) Refusal
unpack_patterns kind bytes n = if_length kind n (length bytes) (Ok (values_of kind n bytes))

-- those of a type by its number
abbrev pub of_type : {X : Type 0} → Result NcType Refusal → (NcType → Result X Refusal) → Result X Refusal
of_type (Ok kind) f = f kind
of_type (Err r) f = Err r

abbrev pub range_told : Refusal → ℕ → ℕ
range_told (refusal.Range k) old = k
range_told _ old = old
