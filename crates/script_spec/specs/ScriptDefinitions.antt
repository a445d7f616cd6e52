-- The lines of a script before `data`: hints, ranks, dimensions, variables and attributes of a new dataset, and what is
-- added to one that is opened. (own)
--     hint_line .. fill_line    what the words of a line say, or the first fault among them from the left
--     definition, addition      what is defined, or added to an opened dataset, after a line
--     known_after               what is known after a line
use Rattle.std.specs.Prelude.{bytes_eq, ℕ, ◌+◌, ◌%◌, List, [], ◌∷◌, ◌++◌, map, find, position, drop, length, flat_map, Bool, true, false, not, ◌&&◌, nat_lt, nat_le, ◌==◌, if◌then◌else◌, Option, Some, None, Result, Ok, is_some, slice_get, slice_set, codes}
use Rattle.std.specs.List.{list_any, list_all}
use Rattle.nc_base.specs.declared.errors.ScriptKind.{ScriptKind}
use Rattle.nc_base.specs.declared.errors.ScriptKind.TheVariants as kind
use Rattle.nc_base.specs.declared.errors.LimitName.TheVariants as limit
use Rattle.nc_base.specs.declared.header.NcType.{NcType}
use Rattle.nc_base.specs.declared.header.Dim.{Dim}
use Rattle.nc_base.specs.declared.header.Attr.{Attr}
use Rattle.nc_base.specs.declared.header.Var.{Var}
use Rattle.nc_base.specs.declared.request.Value.TheVariants as value
use Rattle.nc_base.specs.declared.request.Values.{Values}
use Rattle.nc_base.specs.declared.request.Values.TheVariants.{Numbers, Text, Bits}
use Rattle.nc_base.specs.declared.script.Extra.{Extra}
use Rattle.nc_base.specs.declared.script.Extra.TheVariants as extra
use Rattle.serial_spec.specs.ExternalForm.{ext, types}
use Rattle.serial_spec.specs.Limits.{most_dims, most_dims_of_var, most_vars, record_limit}
use Rattle.serial_spec.specs.HeaderBytes.{number_of, last_type}
use Rattle.nc_base.specs.Values.{count_of}
use Rattle.script_spec.specs.Texts.{type_word}
use Rattle.script_spec.specs.HintTable.{HintForm, Within, Either, hint_of_text, hint_form, hint_in, none_given}
use Rattle.script_spec.specs.ScriptWords.{Word, below, size_of_text, is_name, between_brackets, parts, all_some}
use Rattle.script_spec.specs.ScriptSteps.{◌>>=◌, refuse_if, or_fault, Readers, refused, by_word, reads_as, name_of_text, name, ended, whole}
use Rattle.script_spec.specs.ScriptValues.{values}

-- ---- hints

-- a multiple of unit from low to high
abbrev pub number_within : ℕ → ℕ → ℕ → List ℕ → Option ℕ
number_within low high unit w = elim (size_of_text w) [ None ↦ None | Some n ↦ if nat_le low n && nat_le n high && n % unit == 0 then Some n else None ]

-- 0 or 1, by its word
abbrev pub one_of_two : List ℕ → List ℕ → List ℕ → Option ℕ
one_of_two zero_word one_word w = if bytes_eq w zero_word then Some 0 else (if bytes_eq w one_word then Some 1 else None)

-- the value of a hint of this form
abbrev pub hint_value : HintForm → List Word → Result (ℕ × List Word) ScriptKind
hint_value (Within low high unit) ws = reads_as (number_within low high unit) kind.BadNumber ws
hint_value (Either zero_word one_word) ws = reads_as (one_of_two zero_word one_word) kind.UnknownWord ws

-- which hint of the table, and its value
abbrev pub hint_line : List (Option ℕ) → List Word → Result (ℕ × ℕ) ScriptKind
hint_line given ws = do
  h ← reads_as hint_of_text kind.UnknownWord ws
  _ ← refuse_if (is_some (hint_in h.0 given)) kind.TwiceNamed
  v ← hint_value (hint_form h.0) h.1
  _ ← ended v.1
  Ok (h.0, v.0)

abbrev pub ranks_line : Option ℕ → List Word → Result ℕ ScriptKind
ranks_line ranks ws = do
  _ ← refuse_if (is_some ranks) kind.TwiceNamed
  n ← reads_as (number_within 1 64 1) kind.BadNumber ws
  whole n

-- ---- dimensions, variables and attributes

-- the type of this word, if datasets of this version have it
abbrev pub type_of : ℕ → List ℕ → Option NcType
type_of version w =
    elim (find (λ t. bytes_eq w (type_word t)) types) [ None ↦ None | Some t ↦ if nat_le (number_of t) (last_type version) then Some t else None ]

abbrev pub is_among : List ℕ → List (List ℕ) → Bool
is_among n names = list_any (bytes_eq n) names

-- a length from 1, or 0 for unlimited
abbrev pub length_of_text : ℕ → List ℕ → Option ℕ
length_of_text version w =
    if bytes_eq w (codes "unlimited") then Some 0
    else (elim (below (record_limit version) (size_of_text w)) [ None ↦ None | Some n ↦ if n == 0 then None else Some n ])

abbrev pub is_unlimited : Dim → Bool
is_unlimited d = d.len == 0

abbrev pub dim_names : List Dim → List (List ℕ)
dim_names dims = map (λ d. d.name) dims

-- a dimension, after these
abbrev pub dim_line : ℕ → List Dim → List Word → Result Dim ScriptKind
dim_line version dims ws = do
  n ← name ws
  _ ← refuse_if (is_among n.0 (dim_names dims)) kind.TwiceNamed
  _ ← refuse_if (nat_le most_dims (length dims)) (kind.Limit limit.Dims)
  len ← reads_as (length_of_text version) kind.BadNumber n.1
  _ ← refuse_if (len.0 == 0 && list_any is_unlimited dims) kind.BadShape
  _ ← ended len.1
  Ok (record { name = n.0; len = len.0 })

-- a variable's type and name, which is none of these
abbrev pub var_head : ℕ → List (List ℕ) → List Word → Result ((NcType × List ℕ) × List Word) ScriptKind
var_head version names ws = do
  t ← reads_as (type_of version) kind.UnknownWord ws
  n ← name t.1
  _ ← refuse_if (is_among n.0 names) kind.TwiceNamed
  _ ← refuse_if (nat_le most_vars (length names)) (kind.Limit limit.Vars)
  Ok ((t.0, n.0), n.1)

-- the names between the brackets
abbrev pub name_list : List Word → Result (List (List ℕ) × List Word) ScriptKind
name_list ws = do
  inside ← reads_as between_brackets kind.BadNumber ws
  _ ← refuse_if (not (list_all is_name (parts inside.0))) kind.BadName
  Ok (parts inside.0, inside.1)

-- the place of each name
abbrev pub dim_ids : List Dim → List (List ℕ) → Option (List ℕ)
dim_ids dims names = all_some (map (λ n. position (bytes_eq n) (dim_names dims)) names)

-- the dimension at this place is unlimited
abbrev pub is_record_dim : List Dim → ℕ → Bool
is_record_dim dims id = elim (slice_get dims id) [ None ↦ false | Some d ↦ is_unlimited d ]

abbrev pub var_names : List Var → List (List ℕ)
var_names vars = map (λ v. v.name) vars

-- the places of a variable's dimensions
abbrev pub shape : List Dim → List Word → Result (List ℕ × List Word) ScriptKind
shape dims ws = do
  names ← name_list ws
  ids ← or_fault kind.UnknownName (dim_ids dims names.0)
  _ ← refuse_if (nat_lt most_dims_of_var (length ids)) (kind.Limit limit.VarDims)
  _ ← refuse_if (list_any (is_record_dim dims) (drop 1 ids)) kind.BadShape
  Ok (ids, names.1)

abbrev pub var_line : ℕ → List Dim → List Var → List Word → Result Var ScriptKind
var_line version dims vars ws = do
  v ← var_head version (var_names vars) ws
  ids ← shape dims v.1
  _ ← ended ids.1
  Ok (record { name = v.0.1; dims = ids.0; attrs = []; kind = v.0.0; begin = 0 })

-- the owner's word: a variable's name, or a colon for the dataset
abbrev pub owner_of_text : List ℕ → Option (List ℕ)
owner_of_text w = if bytes_eq w (codes ":") then Some w else name_of_text w

-- the variable's name, or none for the dataset
abbrev pub owner_name : List ℕ → Option (List ℕ)
owner_name w = if bytes_eq w (codes ":") then None else Some w

-- the owner's place, or none for the dataset
abbrev pub owner_place : List Var → List ℕ → Result (Option ℕ) ScriptKind
owner_place vars w =
    elim (bytes_eq w (codes ":")) [ true ↦ Ok None | false ↦ (or_fault kind.UnknownName (position (bytes_eq w) (var_names vars)) >>= λ k. Ok (Some k)) ]

-- an owner's word and the name of an attribute
abbrev pub Title : Type 0
Title = List ℕ × List ℕ

abbrev pub same_title : Title → Title → Bool
same_title a b = bytes_eq a.0 b.0 && bytes_eq a.1 b.1

-- the values in external form
abbrev pub external_bytes : NcType → Values → List ℕ
external_bytes t (Numbers zs) = flat_map (λ z. ext t (value.Number z)) zs
external_bytes t (Text cs) = flat_map (λ c. ext t (value.Char c)) cs
external_bytes t (Bits ns) = flat_map (λ n. ext t (value.Bits n)) ns

abbrev pub attr_of : List ℕ → NcType → Values → Attr
attr_of n t vs = record { name = n; kind = t; count = count_of vs; bytes = external_bytes t vs }

-- the name of an attribute of this owner, whose title is none of these
abbrev pub attribute_name : List Title → List ℕ → List Word → Result (List ℕ × List Word) ScriptKind
attribute_name titles owner ws = do
  n ← name ws
  _ ← refuse_if (list_any (same_title (owner, n.0)) titles) kind.TwiceNamed
  Ok n

-- what follows the owner: the attribute's name, type and values
abbrev pub attribute : ℕ → List Title → ℕ → List ℕ → List Word → Result Attr ScriptKind
attribute version titles before owner ws = do
  n ← attribute_name titles owner ws
  t ← reads_as (type_of version) kind.UnknownWord n.1
  vs ← values (Some t.0) before t.1
  Ok (attr_of n.0 t.0 vs)

-- ---- the definitions of a new dataset

pub record Defined : Type 0 where
  pub dims : List Dim
  pub vars : List Var  -- with their attributes
  pub attrs : List Attr  -- of the dataset
  pub titles : List Title  -- of all attributes
  pub filled : Bool

abbrev pub no_definition : Defined
no_definition = record { dims = []; vars = []; attrs = []; titles = []; filled = false }

abbrev pub with_dim : Dim → Defined → Defined
with_dim x d = record d { dims = d.dims ++ x ∷ [] }

abbrev pub with_var : Var → Defined → Defined
with_var x d = record d { vars = d.vars ++ x ∷ [] }

-- the variable at this place has the attribute
abbrev pub with_attr_at : ℕ → Attr → List Var → List Var
with_attr_at k a vars = elim (slice_get vars k) [ None ↦ vars | Some v ↦ slice_set vars k (record v { attrs = v.attrs ++ a ∷ [] }) ]

abbrev pub with_title : List ℕ → List ℕ → Defined → Defined
with_title owner n d = record d { titles = d.titles ++ (owner, n) ∷ [] }

-- the dataset has the attribute, or the variable at place k
abbrev pub with_attr_of_owner : Option ℕ → Attr → Defined → Defined
with_attr_of_owner None a d = record d { attrs = d.attrs ++ a ∷ [] }
with_attr_of_owner (Some k) a d = record d { vars = with_attr_at k a d.vars }

-- how many values the line has, and what is defined then
abbrev pub att_line : ℕ → ℕ → Defined → List Word → Result (ℕ × Defined) ScriptKind
att_line version before d ws = do
  o ← reads_as owner_of_text kind.BadName ws
  k ← owner_place d.vars o.0
  a ← attribute version d.titles before o.0 o.1
  Ok (a.count, with_title o.0 a.name (with_attr_of_owner k a d))

-- the same of the other lines, which have no values
abbrev pub dim_definition : ℕ → Defined → List Word → Result (ℕ × Defined) ScriptKind
dim_definition version d ws = dim_line version d.dims ws >>= λ x. Ok (0, with_dim x d)

abbrev pub var_definition : ℕ → Defined → List Word → Result (ℕ × Defined) ScriptKind
var_definition version d ws = var_line version d.dims d.vars ws >>= λ x. Ok (0, with_var x d)

abbrev pub fill_line : Defined → List Word → Result (ℕ × Defined) ScriptKind
fill_line d ws = do
  _ ← refuse_if d.filled kind.TwiceNamed
  _ ← ended ws
  Ok (0, record d { filled = true })

-- the lines that define a new dataset
abbrev pub definition_readers : ℕ → ℕ → Defined → Readers (ℕ × Defined)
definition_readers version before d =
    (codes "dim", dim_definition version d) ∷ (codes "var", var_definition version d)
    ∷ (codes "att", att_line version before d) ∷ (codes "fill", fill_line d) ∷ []

abbrev pub definition : ℕ → ℕ → Defined → List ℕ → List Word → Result (ℕ × Defined) ScriptKind
definition version before d first ws = by_word (definition_readers version before d) (refused kind.UnknownWord) first ws

-- ---- the lines after `open`, which add to what the dataset has, so that names may be those of the dataset

pub record Added : Type 0 where
  pub dims : List Dim
  pub vars : List (List ℕ)  -- by name
  pub titles : List Title
  pub extras : List Extra  -- all of them, in order

abbrev pub nothing_added : Added
nothing_added = record { dims = []; vars = []; titles = []; extras = [] }

-- a dimension of the script's own, of this name, is unlimited
abbrev pub is_added_record : List Dim → List ℕ → Bool
is_added_record dims n = list_any (λ d. bytes_eq n d.name && is_unlimited d) dims

-- the names of a variable's dimensions
abbrev pub added_shape : List Dim → List Word → Result (List (List ℕ) × List Word) ScriptKind
added_shape dims ws = do
  names ← name_list ws
  _ ← refuse_if (nat_lt most_dims_of_var (length names.0)) (kind.Limit limit.VarDims)
  _ ← refuse_if (list_any (is_added_record dims) (drop 1 names.0)) kind.BadShape
  Ok names

-- how many values the line has, and what is added then
abbrev pub dim_addition : Added → List Word → Result (ℕ × Added) ScriptKind
dim_addition d ws = do
  x ← dim_line 5 d.dims ws
  Ok (0, record d { dims = d.dims ++ x ∷ []; extras = d.extras ++ extra.Dim x ∷ [] })

abbrev pub var_addition : Added → List Word → Result (ℕ × Added) ScriptKind
var_addition d ws = do
  v ← var_head 5 d.vars ws
  names ← added_shape d.dims v.1
  _ ← ended names.1
  Ok (0, record d { vars = d.vars ++ v.0.1 ∷ []; extras = d.extras ++ extra.Var v.0.0 v.0.1 names.0 ∷ [] })

abbrev pub att_addition : ℕ → Added → List Word → Result (ℕ × Added) ScriptKind
att_addition before d ws = do
  o ← reads_as owner_of_text kind.BadName ws
  a ← attribute 5 d.titles before o.0 o.1
  Ok (a.count, record d { titles = d.titles ++ (o.0, a.name) ∷ []; extras = d.extras ++ extra.Att (owner_name o.0) a ∷ [] })

-- the lines that add to an existing dataset
abbrev pub addition_readers : ℕ → Added → Readers (ℕ × Added)
addition_readers before d = (codes "dim", dim_addition d) ∷ (codes "var", var_addition d) ∷ (codes "att", att_addition before d) ∷ []

abbrev pub addition : ℕ → Added → List ℕ → List Word → Result (ℕ × Added) ScriptKind
addition before d first ws = by_word (addition_readers before d) (refused kind.UnknownWord) first ws

-- ---- what is known before `data`

pub record Known : Type 0 where
  pub ranks : Option ℕ
  pub hints : List (Option ℕ)  -- one for each of the table
  pub defined : Defined
  pub added : Added
  pub values : ℕ  -- of all attributes

abbrev pub nothing_known : Known
nothing_known = record { ranks = None; hints = none_given; defined = no_definition; added = nothing_added; values = 0 }

-- the dataset is an existing one, which has version 0 here, or a new one
abbrev pub definition_or_addition : ℕ → Known → List ℕ → List Word → Result Known ScriptKind
definition_or_addition version known first ws =
    elim (version == 0) [
      | true ↦ (addition known.values known.added first ws >>= λ x. Ok (record known { added = x.1; values = known.values + x.0 }))
      | false ↦ (definition version known.values known.defined first ws >>= λ x. Ok (record known { defined = x.1; values = known.values + x.0 }))
    ]

-- the lines that say something of the run, for either dataset
abbrev pub run_readers : Known → Readers Known
run_readers known =
    (codes "ranks", λ ws. ranks_line known.ranks ws >>= λ n. Ok (record known { ranks = Some n }))
    ∷ (codes "hint", λ ws. hint_line known.hints ws >>= λ h. Ok (record known { hints = slice_set known.hints h.0 (Some h.1) })) ∷ []

-- what is known after a line
abbrev pub known_after : ℕ → Known → List ℕ → List Word → Result Known ScriptKind
known_after version known first ws = by_word (run_readers known) (definition_or_addition version known first) first ws
