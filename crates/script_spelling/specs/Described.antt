-- The script of which statements and calls tell. (own)
--     Describes ss called script    its parts are those that these say, in the order of their lines
use Rattle.std.specs.Prelude.{◌≡◌, ℕ, suc, List, [], ◌∷◌, map, Bool, true, false, ◌==◌, if◌then◌else◌, Option, Some, None, bytes_eq}
use Rattle.std.specs.List.{AllZip, filter_map, list_all, range_with_len}
use Rattle.std.specs.Prelude.{nat_lt}
use Rattle.nc_base.specs.declared.header.Dim.{Dim}
use Rattle.nc_base.specs.declared.header.Attr.{Attr}
use Rattle.nc_base.specs.declared.header.Var.{Var}
use Rattle.nc_base.specs.declared.request.Call.{Call}
use Rattle.nc_base.specs.declared.script.Extra.{Extra}
use Rattle.nc_base.specs.declared.script.Extra.TheVariants as extra
use Rattle.nc_base.specs.declared.script.Script.{Script}
use Rattle.script_spec.specs.HintTable.{hint_in, hints_of}
use Rattle.script_spec.specs.ScriptDefinitions.{dim_ids, no_definition}
use Rattle.script_spec.specs.ScriptGrammar.{header_of}
use Rattle.script_spelling.specs.Statements.{Statement, RanksAre, HintIs, IsFilled, DimIs, VarIs, AttIs, VarLine}

-- ---- what statements say of one kind, in their order

abbrev pub ranks_in : List Statement → List ℕ
ranks_in [] = []
ranks_in (RanksAre n ∷ ss) = n ∷ ranks_in ss
ranks_in (_ ∷ ss) = ranks_in ss

-- the values of this hint
abbrev pub hint_values : ℕ → List Statement → List ℕ
hint_values h [] = []
hint_values h (HintIs other v ∷ ss) = if other == h then v ∷ hint_values h ss else hint_values h ss
hint_values h (_ ∷ ss) = hint_values h ss

abbrev pub fills_in : List Statement → ℕ
fills_in [] = 0
fills_in (IsFilled ∷ ss) = suc (fills_in ss)
fills_in (_ ∷ ss) = fills_in ss

abbrev pub dims_in : List Statement → List Dim
dims_in [] = []
dims_in (DimIs d ∷ ss) = d ∷ dims_in ss
dims_in (_ ∷ ss) = dims_in ss

abbrev pub vars_in : List Statement → List VarLine
vars_in [] = []
vars_in (VarIs v ∷ ss) = v ∷ vars_in ss
vars_in (_ ∷ ss) = vars_in ss

-- the attributes of the dataset, and those of a variable
abbrev pub own_attrs : List Statement → List Attr
own_attrs [] = []
own_attrs (AttIs None a ∷ ss) = a ∷ own_attrs ss
own_attrs (_ ∷ ss) = own_attrs ss

abbrev pub attrs_of : List ℕ → List Statement → List Attr
attrs_of name [] = []
attrs_of name (AttIs (Some owner) a ∷ ss) = if bytes_eq owner name then a ∷ attrs_of name ss else attrs_of name ss
attrs_of name (_ ∷ ss) = attrs_of name ss

-- what is added to a dataset that is opened
abbrev pub extras_in : List Statement → List Extra
extras_in [] = []
extras_in (DimIs d ∷ ss) = extra.Dim d ∷ extras_in ss
extras_in (VarIs v ∷ ss) = extra.Var v.kind v.name v.dims ∷ extras_in ss
extras_in (AttIs owner a ∷ ss) = extra.Att owner a ∷ extras_in ss
extras_in (_ ∷ ss) = extras_in ss

-- the calls of this rank
abbrev pub calls_in : ℕ → List (ℕ × Call) → List Call
calls_in r called = filter_map (λ c. if c.0 == r then Some c.1 else None) called

-- ---- the parts of the script

-- one value or none
abbrev pub at_most_one : Option ℕ → List ℕ
at_most_one None = []
at_most_one (Some n) = n ∷ []

-- the variable of a line: its dimensions by their places, and the attributes that lines give it
abbrev pub IsVarOf : List Dim → List Attr → VarLine → Var → Type 0
IsVarOf dims attrs line v = (dim_ids dims line.dims ≡ Some v.dims) × (v ≡ record { name = line.name; dims = v.dims; attrs = attrs; kind = line.kind; begin = 0 })

-- a new dataset has what the statements define, one that is opened gets it
pub record Defines (ss : List Statement) (s : Script) : Type 0 where
  pub dims : s.header.dims ≡ dims_in ss
  pub vars : AllZip (λ (line : VarLine) v. IsVarOf s.header.dims (attrs_of line.name ss) line v) (vars_in ss) s.header.vars
  pub attrs : s.header.attrs ≡ own_attrs ss
  pub records : s.header.records ≡ 0
  pub extra : s.extra ≡ []

pub record Adds (ss : List Statement) (s : Script) : Type 0 where
  pub header : s.header ≡ header_of 0 no_definition
  pub extra : s.extra ≡ extras_in ss

abbrev pub ToDataset : Bool → List Statement → Script → Type 0
ToDataset true ss s = Defines ss s
ToDataset false ss s = Adds ss s

-- `ranks` once; each hint once at most, and its default where it is not given; each rank has the calls of its lines
pub record Describes (ss : List Statement) (called : List (ℕ × Call)) (s : Script) : Type 0 where
  pub ranks : ranks_in ss ≡ s.ranks ∷ []
  pub hint_table : List (Option ℕ)
  pub given : (h : ℕ) → hint_values h ss ≡ at_most_one (hint_in h hint_table)
  pub hints : s.hints ≡ hints_of s.ranks hint_table
  pub filled : fills_in ss ≡ (if s.filled then 1 else 0)
  pub dataset : ToDataset s.fresh ss s
  pub there : list_all (λ c. nat_lt c.0 s.ranks) called ≡ true
  pub calls : s.calls ≡ map (λ r. calls_in r called) (range_with_len 0 s.ranks)
