-- The canonical text of a script. (own)
--     shown script              the text: the head, `ranks`, all hints, the definitions, and the calls, rank after rank
--     call_words call           the words behind a call's own
use Rattle.std.specs.Prelude.{ℕ, zero, suc, List, [], ◌∷◌, ◌++◌, map, take, drop, length, flat_map, ◌==◌, if◌then◌else◌, Some, None, codes, decimal}
use Rattle.std.specs.List.{enumerate_from}
use Rattle.nc_base.specs.declared.header.Dim.{Dim}
use Rattle.nc_base.specs.declared.header.Attr.{Attr}
use Rattle.nc_base.specs.declared.header.Var.{Var}
use Rattle.nc_base.specs.declared.header.Header.{Header}
use Rattle.nc_base.specs.declared.script.Hints.{Hints}
use Rattle.nc_base.specs.declared.request.Values.{Values}
use Rattle.nc_base.specs.declared.request.Form.{Form}
use Rattle.nc_base.specs.declared.request.Form.TheVariants as form
use Rattle.nc_base.specs.declared.request.Given.{Given}
use Rattle.nc_base.specs.declared.request.Part.{Part}
use Rattle.nc_base.specs.declared.script.Extra.{Extra}
use Rattle.nc_base.specs.declared.script.Extra.TheVariants as extra
use Rattle.nc_base.specs.declared.request.Choice.{Choice}
use Rattle.nc_base.specs.declared.request.Choice.TheVariants.{Every, Listed}
use Rattle.nc_base.specs.declared.request.Call.{Call}
use Rattle.nc_base.specs.declared.request.Call.TheVariants as call
use Rattle.nc_base.specs.declared.script.Script.{Script}
use Rattle.serial_spec.specs.ExternalForm.{class_of, size_of, val}
use Rattle.serial_spec.specs.Request.{gathered}
use Rattle.script_spec.specs.Texts.{type_word, call_word, line, joined, value_words, dim_name}
use Rattle.script_spec.specs.HintTable.{HintRow, hint_table, shown_value}
use Rattle.script_spec.specs.CallTable.{Family, Requests, Size, Name, Record, Nothing, Behind, of_behind}

abbrev pub bracketed : List (List ℕ) → List ℕ
bracketed ws = 91 ∷ joined 44 ws ++ 93 ∷ []  -- [ and ], with commas between

abbrev pub size_list : List ℕ → List ℕ
size_list ns = bracketed (map decimal ns)

abbrev pub shown_values : Values → List (List ℕ)
shown_values vs = value_words 16 vs

-- bytes cut into n pieces of one size
abbrev pub pieces : ℕ → ℕ → List ℕ → List (List ℕ)
pieces zero size bytes = []
pieces (suc n) size bytes = take size bytes ∷ pieces n size (drop size bytes)

-- the values of an attribute, which holds them in external form
abbrev pub attr_values : Attr → Values
attr_values a = gathered (class_of a.kind) (map (λ b. Some (val a.kind b)) (pieces a.count (size_of a.kind) a.bytes))

abbrev pub shown_dim : Dim → List ℕ
shown_dim d = line (codes "dim" ∷ d.name ∷ (if d.len == 0 then codes "unlimited" else decimal d.len) ∷ [])

abbrev pub shown_var : Header → Var → List ℕ
shown_var header v = line (codes "var" ∷ type_word v.kind ∷ v.name ∷ bracketed (map (dim_name header) v.dims) ∷ [])

abbrev pub shown_attr : List ℕ → Attr → List ℕ
shown_attr owner a = line (codes "att" ∷ owner ∷ a.name ∷ type_word a.kind ∷ shown_values (attr_values a))

abbrev pub shown_hint : Hints → HintRow → List ℕ
shown_hint h row = line (codes "hint" ∷ row.word ∷ shown_value row.form (row.seen h) ∷ [])

abbrev pub shown_hints : Hints → List ℕ
shown_hints h = flat_map (shown_hint h) hint_table

abbrev pub part_words : Part → List (List ℕ)
part_words p = size_list p.start ∷ size_list p.count ∷ []

-- the lists of a region of this form
abbrev pub form_words : Form → Given → List (List ℕ)
form_words form.Var g = []
form_words form.Var1 g = size_list g.start ∷ []
form_words form.Vara g = size_list g.start ∷ size_list g.count ∷ []
form_words form.Vars g = size_list g.start ∷ size_list g.count ∷ size_list g.stride ∷ []
form_words form.Varm g = size_list g.start ∷ size_list g.count ∷ size_list g.stride ∷ size_list g.imap ∷ []
form_words form.Varn g = decimal (length g.parts) ∷ flat_map part_words g.parts

abbrev pub region_words : Given → List (List ℕ)
region_words g = form_words g.form g

abbrev pub choice_words : Choice → List (List ℕ)
choice_words Every = codes "all" ∷ []
choice_words (Listed ids) = map decimal ids

abbrev pub words_behind : (f : Family) → Behind f → List (List ℕ)
words_behind Requests c = choice_words c
words_behind Size n = decimal n ∷ []
words_behind Name n = n ∷ []
words_behind Record v = v.0 ∷ decimal v.1 ∷ []
words_behind Nothing _ = []

-- what follows a call's word
abbrev pub call_words : Call → List (List ℕ)
call_words (call.Put all name g vs) = name ∷ region_words g ++ shown_values vs
call_words (call.Get all name g) = name ∷ region_words g
call_words (call.Post id k name g vs) = decimal id ∷ name ∷ region_words g ++ shown_values vs
call_words c = of_behind [] words_behind c

abbrev pub shown_call : ℕ → Call → List ℕ
shown_call r c = line (decimal r ∷ call_word c ∷ call_words c)

abbrev pub shown_definitions : Header → List ℕ
shown_definitions header =
    flat_map shown_dim header.dims ++ flat_map (shown_var header) header.vars
    ++ flat_map (shown_attr (codes ":")) header.attrs
    ++ flat_map (λ v. flat_map (shown_attr v.name) v.attrs) header.vars

-- an extra line of a script for an existing dataset
abbrev pub shown_extra : Extra → List ℕ
shown_extra (extra.Dim d) = shown_dim d
shown_extra (extra.Var t n dims) = line (codes "var" ∷ type_word t ∷ n ∷ bracketed dims ∷ [])
shown_extra (extra.Att None a) = shown_attr (codes ":") a
shown_extra (extra.Att (Some owner) a) = shown_attr owner a

abbrev pub shown : Script → List ℕ
shown s =
    (if s.fresh then line (codes "create" ∷ decimal s.header.version ∷ []) else line (codes "open" ∷ []))
    ++ line (codes "ranks" ∷ decimal s.ranks ∷ []) ++ shown_hints s.hints
    ++ (if s.filled then line (codes "fill" ∷ []) else []) ++ flat_map shown_extra s.extra
    ++ shown_definitions s.header ++ line (codes "data" ∷ [])
    ++ flat_map (λ p. flat_map (shown_call p.0) p.1) (enumerate_from 0 s.calls) ++ line (codes "end" ∷ [])
