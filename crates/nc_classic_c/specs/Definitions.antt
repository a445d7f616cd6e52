-- Definitions that are taken one after another: the dimensions, the attributes of the dataset, and each variable with its
-- attributes. What is asked of one, and in which order, is PnetCDF's (ncmpi_def_dim, ncmpi_def_var and ncmpi_put_att), the limits
-- last; that an attribute's name is not in use, and the limits, are (own).
--     dim_cause, att_cause, var_cause     why one is refused after those before it
--     definition_refusal defined          the first definition that is refused, and why
use Rattle.std.specs.Prelude.{ℕ, ◌%◌, ◌^◌, List, [], ◌∷◌, ◌++◌, bytes_eq, drop, length, slice_get, Bool, false, ◌&&◌, ◌||◌, nat_lt, nat_le, ◌==◌, if◌then◌else◌, Option, Some, None, option_map}
use Rattle.std.specs.List.{list_any}
use Rattle.std.specs.Option.{option_or}
use Rattle.serial_spec.specs.ExternalForm.{size_of}
use Rattle.serial_spec.specs.HeaderBytes.{last_type}
use Rattle.serial_spec.specs.Limits.{most_dims, most_dims_of_var, most_vars, most_header_bytes, record_limit}
use Rattle.serial_spec.specs.Lists.{first_true}
use Rattle.cdf_header.specs.Reading.{kind_of}
use Rattle.nc_classic_c.specs.declared.causes.Cause.{Cause}
use Rattle.nc_classic_c.specs.declared.causes.Cause.TheVariants as cause
use Rattle.nc_classic_c.specs.declared.causes.Part.{Part}
use Rattle.nc_classic_c.specs.declared.causes.Part.TheVariants as part
use Rattle.nc_classic_c.specs.declared.causes.Unmade.{Unmade}
use Rattle.nc_classic_c.specs.declared.tables.NcvDimDef.{NcvDimDef}
use Rattle.nc_classic_c.specs.declared.tables.NcvAttDef.{NcvAttDef}
use Rattle.nc_classic_c.specs.declared.tables.NcvVarDef.{NcvVarDef}
use Rattle.nc_classic_c.specs.declared.tables.NcvHeaderDef.{NcvHeaderDef}
use Rattle.nc_classic_c.specs.Looks.{dataset}
use Rattle.nc_classic_c.specs.Naming.{name_cause}

-- ---- types

-- no type has this number, or none of the version
abbrev pub type_cause : ℕ → ℕ → Option Cause
type_cause version number =
    if number == 0 || nat_lt 11 number then Some cause.BadType
    else (if nat_lt (last_type version) number then Some cause.StrictCdf2
    else None)

-- ---- one definition, after those before it

abbrev pub is_record_dim : NcvDimDef → Bool
is_record_dim d = d.length == 0

abbrev pub has_dim_name : List ℕ → NcvDimDef → Bool
has_dim_name name d = bytes_eq d.name.now name

abbrev pub dim_cause : ℕ → List NcvDimDef → NcvDimDef → Option Cause
dim_cause version before d =
    option_or (name_cause d.name.now)
    (first_true (
    (nat_le (record_limit version) d.length, Some cause.DimSize)
    ∷ (is_record_dim d && list_any is_record_dim before, Some cause.Unlimit)
    ∷ (list_any (has_dim_name d.name.now) before, Some cause.NameInUse)
    ∷ (nat_le most_dims (length before), Some cause.MaxDims)
    ∷ []) None)

abbrev pub has_att_name : List ℕ → NcvAttDef → Bool
has_att_name name a = bytes_eq a.name.now name

-- of one owner: more do not fit into a header
abbrev pub most_atts : ℕ
most_atts = 2 ^ 16

-- the bytes of its values have to be those of whole ones
abbrev pub att_cause : ℕ → List NcvAttDef → NcvAttDef → Option Cause
att_cause version before a =
    option_or (name_cause a.name.now)
    (option_or (type_cause version a.kind)
    (first_true (
    (nat_lt 0 (length a.values.now % size_of (kind_of a.kind)), Some cause.Inval)
    ∷ (nat_lt most_header_bytes (length a.values.now), Some cause.TooLarge)
    ∷ (list_any (has_att_name a.name.now) before, Some cause.NameInUse)
    ∷ (nat_le most_atts (length before), Some cause.MaxAtts)
    ∷ []) None))

abbrev pub has_var_name : List ℕ → NcvVarDef → Bool
has_var_name name v = bytes_eq v.name.now name

abbrev pub is_record_id : List NcvDimDef → ℕ → Bool
is_record_id dims id = elim (slice_get dims id) [ None ↦ false | Some d ↦ is_record_dim d ]

abbrev pub var_cause : ℕ → List NcvDimDef → List NcvVarDef → NcvVarDef → Option Cause
var_cause version dims before v =
    option_or (name_cause v.name.now)
    (option_or (type_cause version v.kind)
    (first_true (
    (list_any (has_var_name v.name.now) before, Some cause.NameInUse)
    ∷ (list_any (λ id. nat_le (length dims) id) v.ids.now, Some cause.BadDim)
    ∷ (list_any (is_record_id dims) (drop 1 v.ids.now), Some cause.UnlimPos)
    ∷ (nat_lt most_dims_of_var (length v.ids.now), Some cause.MaxDims)
    ∷ (nat_le most_vars (length before), Some cause.MaxVars)
    ∷ []) None))

-- ---- all of them

abbrev pub told : Part → Option Cause → Option Unmade
told p c = option_map (λ c. record { cause = c; part = p }) c

-- the first of these that is refused, each after those before it
abbrev pub first_refused : {A : Type 0} → (List A → A → Option Unmade) → List A → List A → Option Unmade
first_refused refusal before [] = None
first_refused refusal before (x ∷ xs) = option_or (refusal before x) (first_refused refusal (before ++ x ∷ []) xs)

abbrev pub dim_refusal : ℕ → List NcvDimDef → NcvDimDef → Option Unmade
dim_refusal version before d = told (part.Dim (length before)) (dim_cause version before d)

abbrev pub att_refusal : ℕ → ℕ → List NcvAttDef → NcvAttDef → Option Unmade
att_refusal version owner before a = told (part.Att owner (length before)) (att_cause version before a)

abbrev pub atts_refusal : ℕ → ℕ → List NcvAttDef → Option Unmade
atts_refusal version owner attrs = first_refused (att_refusal version owner) [] attrs

-- a variable, then its attributes
abbrev pub var_refusal : ℕ → List NcvDimDef → List NcvVarDef → NcvVarDef → Option Unmade
var_refusal version dims before v =
    option_or (told (part.Var (length before)) (var_cause version dims before v)) (atts_refusal version (length before) v.attrs.now)

abbrev pub definition_refusal : NcvHeaderDef → Option Unmade
definition_refusal defined =
    option_or (first_refused (dim_refusal defined.version) [] defined.dims.now)
    (option_or (atts_refusal defined.version dataset defined.attrs.now)
    (first_refused (var_refusal defined.version defined.dims.now) [] defined.vars.now))
