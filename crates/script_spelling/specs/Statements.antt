-- What a line between the head and `data` says, and what may be said after what. (own)
--     Says version words s      the words of a line of a script for this version say the statement
--     Stand opened .. ss        the statements may stand behind what was named before them
use Rattle.std.specs.Prelude.{◌≡◌, ◌<◌, ◌≤◌, ℕ, List, [], ◌∷◌, ◌++◌, drop, length, Bool, true, false, ◌&&◌, Option, Some, None, codes}
use Rattle.std.specs.List.{list_any, list_all}
use Rattle.nc_base.specs.declared.header.NcType.{NcType}
use Rattle.nc_base.specs.declared.header.Dim.{Dim}
use Rattle.nc_base.specs.declared.header.Attr.{Attr}
use Rattle.nc_base.specs.declared.request.Values.{Values}
use Rattle.serial_spec.specs.Limits.{most_dims, most_dims_of_var, most_vars}
use Rattle.script_spec.specs.ScriptWords.{Word, Plain, is_name, between_brackets, parts}
use Rattle.script_spec.specs.HintTable.{HintForm, Within, Either, hint_form, hint_of_text}
use Rattle.script_spec.specs.ScriptDefinitions.{number_within, one_of_two, type_of, length_of_text, is_among, dim_names, dim_ids, is_unlimited, is_record_dim, is_added_record, Title, same_title, attr_of}
use Rattle.script_spelling.specs.SpelledValues.{SpellsValues}

-- a variable as a line defines it: the names of its dimensions, the slowest first
pub record VarLine : Type 0 where
  pub kind : NcType
  pub name : List ℕ
  pub dims : List (List ℕ)

pub data Statement : Type 0 where
  RanksAre : ℕ → Statement
  HintIs : ℕ → ℕ → Statement  -- which hint of the table, and its value
  IsFilled : Statement
  DimIs : Dim → Statement
  VarIs : VarLine → Statement
  AttIs : Option (List ℕ) → Attr → Statement  -- of the variable of this name, or of the dataset

-- ---- what words say

abbrev pub hint_value_of : HintForm → List ℕ → Option ℕ
hint_value_of (Within low high unit) w = number_within low high unit w
hint_value_of (Either zero_word one_word) w = one_of_two zero_word one_word w

-- the word of an attribute's owner
abbrev pub owner_word : Option (List ℕ) → List ℕ
owner_word None = codes ":"
owner_word (Some name) = name

abbrev pub IsOwner : Option (List ℕ) → Type 0
IsOwner None = Unit {0}
IsOwner (Some name) = is_name name ≡ true

-- in a script for this version
abbrev pub Says : ℕ → List Word → Statement → Type 0
Says version words (RanksAre n) = (w : List ℕ) × (words ≡ Plain (codes "ranks") ∷ Plain w ∷ []) × (number_within 1 64 1 w ≡ Some n)
Says version words (HintIs h v) =
    (name w : List ℕ) × (words ≡ Plain (codes "hint") ∷ Plain name ∷ Plain w ∷ []) × (hint_of_text name ≡ Some h)
    × (hint_value_of (hint_form h) w ≡ Some v)
Says version words IsFilled = words ≡ Plain (codes "fill") ∷ []
Says version words (DimIs d) =
    (w : List ℕ) × (words ≡ Plain (codes "dim") ∷ Plain d.name ∷ Plain w ∷ []) × (is_name d.name ≡ true) × (length_of_text version w ≡ Some d.len)
Says version words (VarIs v) =
    (w shape inside : List ℕ) × (words ≡ Plain (codes "var") ∷ Plain w ∷ Plain v.name ∷ Plain shape ∷ [])
    × (type_of version w ≡ Some v.kind) × (is_name v.name ≡ true) × (between_brackets shape ≡ Some inside) × (parts inside ≡ v.dims)
    × (list_all is_name v.dims ≡ true)
Says version words (AttIs owner a) =
    (w : List ℕ) × (given : List Word) × (vs : Values)
    × (words ≡ Plain (codes "att") ∷ Plain (owner_word owner) ∷ Plain a.name ∷ Plain w ∷ given) × IsOwner owner × (is_name a.name ≡ true)
    × (type_of version w ≡ Some a.kind) × SpellsValues (Some a.kind) given vs × (a ≡ attr_of a.name a.kind vs)

-- ---- what may stand behind these dimensions, variables and titles of attributes

-- a new name, room for one more, and no second unlimited dimension
abbrev pub DimStands : List Dim → Dim → Type 0
DimStands dims d =
    (is_among d.name (dim_names dims) ≡ false) × (length dims < most_dims) × ((is_unlimited d && list_any is_unlimited dims) ≡ false)

-- each dimension is there, or may be one of the dataset that is opened; an unlimited one stands first
abbrev pub ShapeStands : Bool → List Dim → List (List ℕ) → Type 0
ShapeStands true dims names = list_any (is_added_record dims) (drop 1 names) ≡ false
ShapeStands false dims names = (ids : List ℕ) × (dim_ids dims names ≡ Some ids) × (list_any (is_record_dim dims) (drop 1 ids) ≡ false)

abbrev pub VarStands : Bool → List Dim → List (List ℕ) → VarLine → Type 0
VarStands opened dims names v =
    (is_among v.name names ≡ false) × (length names < most_vars) × (length v.dims ≤ most_dims_of_var) × ShapeStands opened dims v.dims

-- the owner is there, or may be a variable of the dataset that is opened
abbrev pub OwnerStands : Bool → List (List ℕ) → Option (List ℕ) → Type 0
OwnerStands false names (Some owner) = is_among owner names ≡ true
OwnerStands _ names owner = Unit {0}

abbrev pub title_of : Option (List ℕ) → Attr → Title
title_of owner a = (owner_word owner, a.name)

-- a name is given once, and before it is used; `fill` is for a new dataset
abbrev pub Stand : Bool → List Dim → List (List ℕ) → List Title → List Statement → Type 0
Stand opened dims names titles [] = Unit {0}
Stand opened dims names titles (DimIs d ∷ ss) = DimStands dims d × Stand opened (dims ++ d ∷ []) names titles ss
Stand opened dims names titles (VarIs v ∷ ss) = VarStands opened dims names v × Stand opened dims (names ++ v.name ∷ []) titles ss
Stand opened dims names titles (AttIs owner a ∷ ss) =
    OwnerStands opened names owner × (list_any (same_title (title_of owner a)) titles ≡ false)
    × Stand opened dims names (titles ++ title_of owner a ∷ []) ss
Stand opened dims names titles (IsFilled ∷ ss) = (opened ≡ false) × Stand opened dims names titles ss
Stand opened dims names titles (_ ∷ ss) = Stand opened dims names titles ss
