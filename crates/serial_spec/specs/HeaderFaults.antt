-- What is wrong with the bytes of a header: netCDF classic format specification, "The format in detail" (the BNF). The
-- limits and the order of the faults are (own).
--     HasFieldFault bytes e    the first field from the front that the grammar does not allow has this fault
--     field_fault bytes        the same as a function
--     first_check header       the first thing that is wrong with a whole header
--     HasFault bytes e         the fault of a file's first bytes: of a field, or of the whole header
use Rattle.std.specs.Prelude.{◌≡◌, ℕ, zero, suc, ◌+◌, ◌-◌, ◌*◌, ◌/◌, ◌^◌, List, [], ◌∷◌, ◌++◌, take, drop, fold, length, position, count_by, find, Bool, true, false, not, ◌&&◌, ◌||◌, ◌⊎◌, nat_lt, nat_le, ◌==◌, if◌then◌else◌, Option, Some, None, option_map, is_none, unwrap_or, slice_get}
use Rattle.std.specs.List.{list_any}
use Rattle.std.specs.Option.{option_or}
use Rattle.std.specs.Int.{byte_len}
use Rattle.nc_base.specs.declared.header.Header.{Header}
use Rattle.nc_base.specs.declared.header.Var.{Var}
use Rattle.nc_base.specs.declared.errors.HeaderErr.{HeaderErr}
use Rattle.nc_base.specs.declared.errors.HeaderErr.TheVariants as fault
use Rattle.serial_spec.specs.Limits.{most_dims, most_dims_of_var, most_vars, most_header_bytes, file_limit, record_limit}
use Rattle.serial_spec.specs.ExternalForm.{size_of, types}
use Rattle.serial_spec.specs.Layout.{round_up, vsize, is_record, recsize, last_share, length_of, record_share, sharing}
use Rattle.serial_spec.specs.HeaderBytes.{count_width, begin_width, number_of, last_type, is_version, dimension_tag, variable_tag, attribute_tag, header_len}
use Rattle.serial_spec.specs.HeaderGrammar.{all_ones, Spells}

-- ---- the fields that the grammar asks for

pub data Entries : Type 0 where
  Dimensions : Entries
  Attributes : Entries
  Variables : Entries
  Ids : Entries

pub data Field : Type 0 where
  Magic : Field
  Records : Field
  Tag : Entries → Field
  Count : Entries → Bool → Field  -- whether its tag was zero
  NameLength : Field
  Block : ℕ → Field  -- one byte and this many more, and their padding
  DimLength : Field
  AttrType : Field
  AttrCount : ℕ → Field  -- of values of this size
  DimCount : Field
  DimId : Field
  VarType : Field
  Vsize : Field
  Begin : Field

-- what is asked for: a field, or one entry and n more
pub data Ask : Type 0 where
  One : Field → Ask
  Many : Entries → ℕ → Ask

abbrev pub the_header : List Ask
the_header = One Magic ∷ One Records ∷ One (Tag Dimensions) ∷ One (Tag Attributes) ∷ One (Tag Variables) ∷ []

abbrev pub first_field : Entries → Field
first_field Ids = DimId
first_field _ = NameLength

abbrev pub other_fields : Entries → List Ask
other_fields Dimensions = One DimLength ∷ []
other_fields Attributes = One AttrType ∷ []
other_fields Variables = One DimCount ∷ One (Tag Attributes) ∷ One VarType ∷ One Vsize ∷ One Begin ∷ []
other_fields Ids = []

abbrev pub many : Entries → ℕ → List Ask
many e zero = []
many e (suc n) = Many e n ∷ []

abbrev pub block : ℕ → List Ask
block zero = []
block (suc n) = One (Block n) ∷ []

-- the size of the type with this number, 0 where none has it
abbrev pub type_size : ℕ → ℕ
type_size n = unwrap_or (option_map size_of (find (λ kind. n == number_of kind) types)) 0

-- what a field with this number asks for next
abbrev pub after_field : Field → ℕ → List Ask
after_field (Tag e) n = One (Count e (n == 0)) ∷ []
after_field (Count e absent) n = many e n
after_field NameLength n = block n
after_field AttrType n = One (AttrCount (type_size n)) ∷ []
after_field (AttrCount size) n = block (n * size)
after_field DimCount n = many Ids n
after_field _ n = []

abbrev pub tag_of : Entries → ℕ
tag_of Dimensions = dimension_tag
tag_of Attributes = attribute_tag
tag_of Variables = variable_tag
tag_of Ids = 0

-- how many entries there may be; None where there is no limit
abbrev pub most_of : Entries → Option ℕ
most_of Dimensions = Some most_dims
most_of Variables = Some most_vars
most_of Attributes = None
most_of Ids = Some most_dims_of_var

abbrev pub is_above : Option ℕ → ℕ → Bool
is_above None n = false
is_above (Some most) n = nat_lt most n

abbrev pub field_len : ℕ → Field → ℕ
field_len version Magic = 4
field_len version (Tag e) = 4
field_len version AttrType = 4
field_len version VarType = 4
field_len version Begin = byte_len (begin_width version)
field_len version (Block n) = round_up 4 (suc n)
field_len version _ = byte_len (count_width version)

abbrev pub big_endian : List ℕ → ℕ
big_endian bytes = fold (λ n b. 256 * n + b) 0 bytes

-- the fourth byte
abbrev pub version_of : List ℕ → ℕ
version_of bytes = big_endian (take 1 (drop 3 bytes))

-- the number that stands in the field, a block's and vsize's being of no account
abbrev pub field_number : ℕ → Field → List ℕ → ℕ → ℕ
field_number version (Block n) bytes x = 0
field_number version Vsize bytes x = 0
field_number version f bytes x = big_endian (take (field_len version f) (drop x bytes))

abbrev pub is_negative : ℕ → Field → ℕ → Bool
is_negative version f n = nat_le (256 ^ field_len version f) (2 * n)

abbrev pub fault_if : Bool → HeaderErr → Option HeaderErr
fault_if b e = if b then Some e else None

abbrev pub bad_type : ℕ → ℕ → ℕ → Option HeaderErr
bad_type version x n = fault_if (n == 0 || nat_lt (last_type version) n) (fault.BadType x)

-- what is wrong with the count of these entries
abbrev pub wrong_count : ℕ → Field → Entries → ℕ → ℕ → Option HeaderErr
wrong_count version f e x n =
    if is_negative version f n then Some (fault.BadNumber x) else fault_if (is_above (most_of e) n) fault.TooLarge

-- the first three bytes of a header as a number: the characters C, D and F
abbrev pub cdf : ℕ
cdf = 0x434446

-- what is wrong with the field at x that has this number
abbrev pub wrong : ℕ → Field → ℕ → ℕ → Option HeaderErr
wrong version Magic x n =
    if n / 256 == cdf then fault_if (not (is_version version)) fault.BadVersion else Some fault.NotCdf
wrong version Records x n = fault_if (is_negative version Records n && not (n == all_ones version)) (fault.BadNumber x)
wrong version (Tag e) x n = fault_if (not (n == 0 || n == tag_of e)) (fault.BadTag x)
wrong version (Count e true) x n = fault_if (not (n == 0)) (fault.BadNumber x)
wrong version (Count e false) x n = wrong_count version (Count e false) e x n
wrong version DimCount x n = wrong_count version DimCount Ids x n
wrong version DimLength x n = fault_if (is_negative version DimLength n || nat_lt file_limit n) (fault.BadNumber x)
wrong version AttrType x n = bad_type version x n
wrong version VarType x n = bad_type version x n
wrong version (Block k) x n = None
wrong version Vsize x n = None
wrong version f x n = fault_if (is_negative version f n) (fault.BadNumber x)

-- what is wrong where the grammar asks for the field at x: it passes the end, or its number is wrong
abbrev pub wrong_at : ℕ → Field → List ℕ → ℕ → Option HeaderErr
wrong_at version f bytes x =
    if nat_lt (length bytes) (x + field_len version f)
    then Some (if length bytes == most_header_bytes then fault.TooLarge else fault.Truncated x)
    else wrong version f x (field_number version f bytes x)

-- the next field that is asked for, and what is asked after it
abbrev pub asked : List Ask → Option (Field × List Ask)
asked [] = None
asked (One f ∷ asks) = Some (f, asks)
asked (Many e n ∷ asks) = Some (first_field e, other_fields e ++ many e n ++ asks)

-- A run of right fields leads from what is asked at x to what is asked at y.
pub data Run (version : ℕ) (bytes : List ℕ) : List Ask → ℕ → List Ask → ℕ → Type 0 where
  stands : {asks : List Ask} {x : ℕ} → Run version bytes asks x asks x
  takes : {asks : List Ask} {f : Field} {rest later : List Ask} {x y : ℕ}
      → asked asks ≡ Some (f, rest) → wrong_at version f bytes x ≡ None
      → Run version bytes (after_field f (field_number version f bytes x) ++ rest) (x + field_len version f) later y
      → Run version bytes asks x later y

-- The longest run of right fields ends at y, where the grammar asks for a field that has this fault.
abbrev pub HasFieldFault : List ℕ → HeaderErr → Type 0
HasFieldFault bytes e =
    let version = version_of bytes in
    (asks : List Ask) × (y : ℕ) × (f : Field) × (rest : List Ask)
    × Run version bytes the_header 0 asks y × (asked asks ≡ Some (f, rest)) × (wrong_at version f bytes y ≡ Some e)

-- the same as a function; each field has a byte at least, so the length bounds their number
abbrev pub first_wrong : ℕ → ℕ → List ℕ → List Ask → ℕ → Option HeaderErr
first_wrong zero version bytes asks x = None
first_wrong (suc fuel) version bytes asks x =
    elim (asked asks) [
      | None ↦ None
      | Some q ↦
          elim (wrong_at version q.0 bytes x) [
            | Some e ↦ Some e
            | None ↦ first_wrong fuel version bytes (after_field q.0 (field_number version q.0 bytes x) ++ q.1) (x + field_len version q.0)
          ]
    ]

abbrev pub field_fault : List ℕ → Option HeaderErr
field_fault bytes = first_wrong (length bytes + 1) (version_of bytes) bytes the_header 0

-- ---- a whole header

-- the place of the first entry that has it
abbrev pub first_with : {A : Type 0} → (A → Bool) → (ℕ → HeaderErr) → List A → Option HeaderErr
first_with test e xs = option_map e (position test xs)

abbrev pub is_record_id : Header → ℕ → Bool
is_record_id header id = length_of (slice_get header.dims id) == 0

abbrev pub two_record_dims : Header → Bool
two_record_dims header = nat_lt 1 (count_by (λ d. d.len == 0) header.dims)

abbrev pub record_later : Header → Var → Bool
record_later header v = list_any (λ id. is_record_id header id) (drop 1 v.dims)

abbrev pub bad_id : Header → Var → Bool
bad_id header v = list_any (λ id. nat_le (length header.dims) id) v.dims

-- the variable keeps its bound, the variables before it adding so much to a record
abbrev pub keeps_bound : Header → ℕ → Var → Bool
keeps_bound header before v =
    nat_lt (vsize header v) file_limit && nat_lt (v.begin + vsize header v) file_limit
    && (not (is_record header v)
    || (nat_lt (before + vsize header v) file_limit
    && (header.records == 0 || nat_lt (v.begin + (header.records - 1) * recsize header + last_share header v) file_limit)))

-- the least variable that does not keep its bound, from variable k on
abbrev pub past_bound : Header → ℕ → ℕ → List Var → Option ℕ
past_bound header before k [] = None
past_bound header before k (v ∷ vs) =
    if keeps_bound header before v then past_bound header (before + record_share header v) (suc k) vs else Some k

abbrev pub measure : Header → Option ℕ
measure header = past_bound header 0 0 header.vars

abbrev pub is_too_large : Header → Bool
is_too_large header = not (is_none (measure header)) || nat_le (record_limit header.version) header.records

abbrev pub first_check : Header → Option HeaderErr
first_check header =
    option_or (fault_if (two_record_dims header) fault.TwoRecordDims)
    (option_or (first_with (record_later header) (λ k. fault.RecordDimNotFirst k) header.vars)
    (option_or (first_with (bad_id header) (λ k. fault.BadDimId k) header.vars)
    (option_or (fault_if (header.records == all_ones header.version) fault.Streaming)
    (option_or (fault_if (is_too_large header) fault.TooLarge)
    (option_map (λ p. fault.Shared p.0 p.1) (sharing header (header_len header)))))))

-- the fault of a file's first bytes, at most 2^20 of them
abbrev pub HasFault : List ℕ → HeaderErr → Type 0
HasFault bytes e =
    (HasFieldFault bytes e)
    ⊎ ((header : Header) × (front : List ℕ) × (rest : List ℕ) × (bytes ≡ front ++ rest) × Spells header front
    × (field_fault bytes ≡ None) × (first_check header ≡ Some e))
