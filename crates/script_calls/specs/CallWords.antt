-- The calls of the definitions, with names for their parts that proofs keep shut.
use Rattle.std.specs.Prelude.{bytes_eq, ℕ, List, [], length, find, drop, Bool, true, false, Some, None, Result, Ok, codes}
use Rattle.nc_base.specs.declared.errors.ScriptKind.{ScriptKind}
use Rattle.nc_base.specs.declared.errors.ScriptKind.TheVariants as kind
use Rattle.nc_base.specs.declared.request.Form.{Form}
use Rattle.nc_base.specs.declared.request.Given.{Given}
use Rattle.nc_base.specs.declared.request.Values.{Values}
use Rattle.nc_base.specs.declared.request.PostKind.{PostKind}
use Rattle.nc_base.specs.declared.request.Choice.{Choice}
use Rattle.nc_base.specs.declared.request.Choice.TheVariants.{Every, Listed}
use Rattle.nc_base.specs.declared.request.Call.{Call}
use Rattle.nc_base.specs.declared.request.Call.TheVariants as call
use Rattle.script_spec.specs.ScriptWords.{Word}
use Rattle.script_spec.specs.ScriptSteps.{◌>>=◌, or_fault, name, ended, whole}
use Rattle.script_spec.specs.ScriptValues.{values}
use Rattle.script_spec.specs.ScriptCalls.{Called, ids, region, post_values, new_id, posted, after_prefix, form_and_all, form_of_text, post_of_text, behind, row_call, plain_call, rank_of_text, call_line, with_call}
use Rattle.script_spec.specs.CallTable.{Family, Nothing, Behind, CallRow, call_table}

unfoldable pub region_by : Form → List Word → Result (Given × List Word) ScriptKind
region_by f ws = region f ws

unfoldable pub values_by : ℕ → List Word → Result Values ScriptKind
values_by before ws = values None before ws

unfoldable pub post_values_by : PostKind → ℕ → List Word → Result Values ScriptKind
post_values_by k before ws = post_values k before ws

unfoldable pub new_id_by : List ℕ → List Word → Result (ℕ × List Word) ScriptKind
new_id_by ids ws = new_id ids ws

unfoldable pub put_by : Bool → Form → ℕ → List Word → Result Call ScriptKind
put_by all f before ws = do
  v ← name ws
  g ← region_by f v.1
  vs ← values_by before g.1
  Ok (call.Put all v.0 g.0 vs)

unfoldable pub get_by : Bool → Form → List Word → Result Call ScriptKind
get_by all f ws = do
  v ← name ws
  g ← region_by f v.1
  _ ← ended g.1
  Ok (call.Get all v.0 g.0)

unfoldable pub post_by : PostKind → List ℕ → Form → ℕ → List Word → Result Call ScriptKind
post_by k ids f before ws = do
  id ← new_id_by ids ws
  v ← name id.1
  g ← region_by f v.1
  vs ← post_values_by k before g.1
  Ok (call.Post id.0 k v.0 g.0 vs)

-- the call that is made of what stands behind a word of a family
abbrev pub made_of : (f : Family) → (Behind f → Call) → List Word → Result Call ScriptKind
made_of f make ws = do
  b ← behind f ws
  Ok (make b)

-- the same of what is made where nothing stands there
abbrev pub made_alone : {A : Type 0} → A → List Word → Result A ScriptKind
made_alone x ws = do
  b ← behind Nothing ws
  Ok x

-- which requests are chosen, by whether the first word is `all`, behind which stand the words new
abbrev pub choice_by : Bool → List Word → List Word → Result Choice ScriptKind
choice_by true old new = whole (Every, new)
choice_by false old new = ids [] old >>= λ found. Ok (Listed found)

-- a call of one of these rows
abbrev pub call_among : List CallRow → ℕ → ℕ → List ℕ → List Word → Result Call ScriptKind
call_among rows ranks r w ws = do
  row ← or_fault kind.UnknownWord (find (λ row. bytes_eq w row.word) rows)
  row_call ranks r row ws

-- the rows of calls that choose no requests
abbrev pub other_rows : List CallRow
other_rows = drop 3 call_table

unfoldable pub plain_by : ℕ → ℕ → List ℕ → List Word → Result Call ScriptKind
plain_by ranks r w ws = plain_call ranks r w ws

-- a call whose word names no form, or a post
unfoldable pub post_or_plain_by : ℕ → ℕ → List Call → ℕ → List ℕ → List Word → Result Call ScriptKind
post_or_plain_by ranks r own before w ws =
    elim (post_of_text w) [
      | Some k ↦ (or_fault kind.UnknownWord (form_of_text k.1) >>= λ f. post_by k.0 (posted own) f before ws)
      | None ↦ plain_by ranks r w ws
    ]

unfoldable pub call_by : ℕ → ℕ → List Call → ℕ → List ℕ → List Word → Result Call ScriptKind
call_by ranks r own before w ws =
    elim (after_prefix (codes "put_") w) [
      | Some rest ↦ (or_fault kind.UnknownWord (form_and_all rest) >>= λ f. put_by f.1 f.0 before ws)
      | None ↦ elim (after_prefix (codes "get_") w) [
        | Some rest ↦ (or_fault kind.UnknownWord (form_and_all rest) >>= λ f. get_by f.1 f.0 ws)
        | None ↦ post_or_plain_by ranks r own before w ws
      ]
    ]

-- the call that a rank's line spells behind the rank
unfoldable pub line_by : Called → ℕ → List Word → Result Call ScriptKind
line_by d r ws = call_line d r ws

-- what has been called after a line
unfoldable pub called_by : Called → List ℕ → List Word → Result Called ScriptKind
called_by d first ws = do
  r ← rank_of_text (length d.calls) first
  c ← line_by d r ws
  Ok (with_call r c d)
