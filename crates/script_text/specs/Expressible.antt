-- Which scripts for a new dataset words can express, besides the limits that each lawful script keeps. (own)
--     is_expressible script     its names are names of the language and each is given once, it has no attributes, and
--                               ids, bits and texts have as many bits as their words
--     printed_lines script      how many lines are printed of such a script
use Rattle.std.specs.Prelude.{◌+◌, ◌^◌, ℕ, List, [], ◌∷◌, ◌++◌, map, drop, length, sum, Bool, true, not, ◌&&◌, nat_lt, nat_le, if◌then◌else◌}
use Rattle.std.specs.List.{list_any, list_all}
use Rattle.nc_base.specs.declared.header.Dim.{Dim}
use Rattle.nc_base.specs.declared.header.Var.{Var}
use Rattle.nc_base.specs.declared.header.Header.{Header}
use Rattle.nc_base.specs.declared.request.Values.{Values}
use Rattle.nc_base.specs.declared.request.Values.TheVariants.{Numbers, Text, Bits}
use Rattle.nc_base.specs.declared.request.Choice.{Choice}
use Rattle.nc_base.specs.declared.request.Choice.TheVariants.{Every, Listed}
use Rattle.nc_base.specs.declared.request.Call.{Call}
use Rattle.nc_base.specs.declared.request.Call.TheVariants as call
use Rattle.nc_base.specs.declared.script.Script.{Script}
use Rattle.serial_spec.specs.HeaderBytes.{number_of, last_type}
use Rattle.serial_spec.specs.Lists.{is_empty}
use Rattle.script_spec.specs.ScriptWords.{is_name}
use Rattle.script_spec.specs.CallTable.{Family, Requests, Name, Record, Behind, of_behind}
use Rattle.script_spec.specs.ScriptDefinitions.{is_among, is_unlimited, is_record_dim, dim_names}

-- ---- definitions

-- a name of the language that is none of these
abbrev pub is_new_name : List (List ℕ) → List ℕ → Bool
is_new_name names n = is_name n && not (is_among n names)

-- dimensions after these: each has a new name, and one at most is unlimited
abbrev pub are_expressible_dims : List Dim → List Dim → Bool
are_expressible_dims before [] = true
are_expressible_dims before (d ∷ ds) =
    is_new_name (dim_names before) d.name && not (is_unlimited d && list_any is_unlimited before) && are_expressible_dims (before ++ d ∷ []) ds

-- no attribute, a type of the version, and dimensions that are there, the unlimited one first
abbrev pub is_expressible_var : ℕ → List Dim → Var → Bool
is_expressible_var version dims v =
    is_empty v.attrs && nat_le (number_of v.kind) (last_type version)
    && list_all (λ id. nat_lt id (length dims)) v.dims && not (list_any (is_record_dim dims) (drop 1 v.dims))

-- variables after others of these names
abbrev pub are_expressible_vars : ℕ → List Dim → List (List ℕ) → List Var → Bool
are_expressible_vars version dims names [] = true
are_expressible_vars version dims names (v ∷ vs) =
    is_new_name names v.name && is_expressible_var version dims v && are_expressible_vars version dims (names ++ v.name ∷ []) vs

abbrev pub is_expressible_header : Header → Bool
is_expressible_header header =
    are_expressible_dims [] header.dims && are_expressible_vars header.version header.dims [] header.vars && is_empty header.attrs

-- ---- calls

-- a text has bytes; bits are some, of 64 binary digits at most
abbrev pub are_expressible_values : Values → Bool
are_expressible_values (Numbers zs) = true
are_expressible_values (Text text) = list_all (λ c. nat_lt c 256) text
are_expressible_values (Bits ns) = not (is_empty ns) && list_all (λ n. nat_lt n (2 ^ 64)) ns

abbrev pub is_id : ℕ → Bool
is_id n = nat_lt n (2 ^ 32)

abbrev pub is_expressible_choice : Choice → Bool
is_expressible_choice Every = true
is_expressible_choice (Listed ids) = list_all is_id ids

-- the names and ids behind the word of a call that names no region
abbrev pub is_expressible_behind : (f : Family) → Behind f → Bool
is_expressible_behind Requests choice = is_expressible_choice choice
is_expressible_behind Name name = is_name name
is_expressible_behind Record place = is_name place.0
is_expressible_behind _ _ = true

abbrev pub is_expressible_call : Call → Bool
is_expressible_call (call.Put all name given vs) = is_name name && are_expressible_values vs
is_expressible_call (call.Get all name given) = is_name name
is_expressible_call (call.Post id kind name given vs) = is_id id && is_name name && are_expressible_values vs
is_expressible_call c = of_behind true is_expressible_behind c

-- ---- a script

abbrev pub is_expressible : Script → Bool
is_expressible s = s.fresh && is_expressible_header s.header && list_all (list_all is_expressible_call) s.calls

-- how many lines are printed: the head, `ranks`, ten hints, `data` and `end`, and one for each other part
abbrev pub printed_lines : Script → ℕ
printed_lines s =
    14 + (if s.filled then 1 else 0) + length s.header.dims + length s.header.vars + sum (map (λ own. length own) s.calls)
