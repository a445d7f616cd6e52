-- The calls of a script, and that the ranks agree on their collective kinds. (own)
--     call_line                 what the words of a call say, or the first fault among them from the left
--     mismatch                  the first collective call at which a rank differs from rank 0
use Rattle.std.specs.Prelude.{bytes_eq, ℕ, zero, suc, ◌+◌, ◌-◌, ◌^◌, List, [], ◌∷◌, ◌++◌, find, position, take, drop, length, Bool, true, false, not, nat_lt, ◌==◌, if◌then◌else◌, Option, Some, None, Result, Ok, Err, is_some, option_map, unwrap_or, slice_get, slice_set, codes}
use Rattle.std.specs.List.{list_any, range_with_len}
use Rattle.nc_base.specs.declared.errors.ScriptKind.{ScriptKind}
use Rattle.nc_base.specs.declared.errors.ScriptKind.TheVariants as kind
use Rattle.nc_base.specs.declared.errors.LimitName.TheVariants as limit
use Rattle.nc_base.specs.declared.request.Values.{Values}
use Rattle.nc_base.specs.declared.request.Values.TheVariants.{Numbers}
use Rattle.nc_base.specs.declared.request.Form.{Form}
use Rattle.nc_base.specs.declared.request.Form.TheVariants as form
use Rattle.nc_base.specs.declared.request.Given.{Given}
use Rattle.nc_base.specs.declared.request.Part.{Part}
use Rattle.nc_base.specs.declared.request.PostKind.{PostKind}
use Rattle.nc_base.specs.declared.request.PostKind.TheVariants.{Iput, Iget, Bput}
use Rattle.nc_base.specs.declared.request.Choice.{Choice}
use Rattle.nc_base.specs.declared.request.Choice.TheVariants.{Every, Listed}
use Rattle.nc_base.specs.declared.request.Call.{Call}
use Rattle.nc_base.specs.declared.request.Call.TheVariants as call
use Rattle.nc_base.specs.declared.step.MeetKind.{MeetKind}
use Rattle.serial_spec.specs.History.{kind_number}
pub use Rattle.serial_spec.specs.Lawful.{id_posted as id_of_post, posted_ids as posted}
use Rattle.serial_spec.specs.Lawful.{values_in_call, most_parts}
use Rattle.script_spec.specs.Texts.{form_word}
use Rattle.script_spec.specs.ScriptWords.{Word, is_word, begins_rank, digits_value, below, size_of_text, parts}
use Rattle.script_spec.specs.ScriptSteps.{◌>>=◌, refuse_if, or_fault, bare, next, reads_as, size, list, name, ended, whole}
use Rattle.script_spec.specs.ScriptValues.{values}
use Rattle.script_spec.specs.CallTable.{Family, Requests, Size, Name, Record, Nothing, Behind, CallRow, row_of_text}

-- ---- calls

-- what follows the prefix, and what comes before the suffix
abbrev pub after_prefix : List ℕ → List ℕ → Option (List ℕ)
after_prefix prefix w = if bytes_eq (take (length prefix) w) prefix then Some (drop (length prefix) w) else None

abbrev pub before_suffix : List ℕ → List ℕ → Option (List ℕ)
before_suffix suffix w =
    let n = length w - length suffix in
    if bytes_eq (drop n w) suffix then Some (take n w) else None

abbrev pub forms : List Form
forms = form.Var1 ∷ form.Var ∷ form.Vara ∷ form.Vars ∷ form.Varm ∷ form.Varn ∷ []

abbrev pub form_of_text : List ℕ → Option Form
form_of_text w = find (λ f. bytes_eq w (form_word f)) forms

-- a form, and whether the word ends with _all
abbrev pub form_and_all : List ℕ → Option (Form × Bool)
form_and_all w =
    elim (before_suffix (codes "_all") w) [
      | Some f ↦ option_map (λ x. (x, true)) (form_of_text f)
      | None ↦ option_map (λ x. (x, false)) (form_of_text w)
    ]

abbrev pub given_of : Form → List ℕ → List ℕ → List ℕ → List ℕ → Given
given_of f s c d m = record { form = f; start = s; count = c; stride = d; imap = m; parts = [] }

abbrev pub given_parts : List Part → Given
given_parts parts = record { form = form.Varn; start = []; count = []; stride = []; imap = []; parts = parts }

abbrev pub part : List Word → Result (Part × List Word) ScriptKind
part ws = do
  s ← list ws
  c ← list s.1
  Ok (record { start = s.0; count = c.0 }, c.1)

-- so many parts, after those found
abbrev pub part_list : ℕ → List Part → List Word → Result (List Part × List Word) ScriptKind
part_list zero found ws = Ok (found, ws)
part_list (suc n) found ws = elim (part ws) [ Err e ↦ Err e | Ok p ↦ part_list n (found ++ p.0 ∷ []) p.1 ]

abbrev pub many_regions : List Word → Result (Given × List Word) ScriptKind
many_regions ws = do
  n ← size ws
  _ ← refuse_if (n.0 == 0) kind.BadNumber
  _ ← refuse_if (nat_lt most_parts n.0) (kind.Limit limit.Parts)
  p ← part_list n.0 [] n.1
  Ok (given_parts p.0, p.1)

abbrev pub region : Form → List Word → Result (Given × List Word) ScriptKind
region form.Var ws = Ok (given_of form.Var [] [] [] [], ws)
region form.Var1 ws = do
  s ← list ws
  Ok (given_of form.Var1 s.0 [] [] [], s.1)
region form.Vara ws = do
  s ← list ws
  c ← list s.1
  Ok (given_of form.Vara s.0 c.0 [] [], c.1)
region form.Vars ws = do
  s ← list ws
  c ← list s.1
  d ← list c.1
  Ok (given_of form.Vars s.0 c.0 d.0 [], d.1)
region form.Varm ws = do
  s ← list ws
  c ← list s.1
  d ← list c.1
  m ← list d.1
  Ok (given_of form.Varm s.0 c.0 d.0 m.0, m.1)
region form.Varn ws = many_regions ws

abbrev pub id_of_text : List ℕ → Option ℕ
id_of_text w = below (2 ^ 32) (size_of_text w)

abbrev pub one_id : Word → Result ℕ ScriptKind
one_id w = do
  x ← bare w
  or_fault kind.BadNumber (id_of_text x)

-- ids to the line's end, after those found
abbrev pub ids : List ℕ → List Word → Result (List ℕ) ScriptKind
ids found [] = Ok found
ids found (w ∷ ws) = elim (one_id w) [ Err e ↦ Err e | Ok x ↦ ids (found ++ x ∷ []) ws ]

abbrev pub choice : List Word → Result Choice ScriptKind
choice [] = Ok (Listed [])
choice (w ∷ ws) =
    elim (is_word (codes "all") w) [ true ↦ whole (Every, ws) | false ↦ (ids [] (w ∷ ws) >>= λ found. Ok (Listed found)) ]

abbrev pub put_call : Bool → Form → ℕ → List Word → Result Call ScriptKind
put_call all f before ws = do
  v ← name ws
  g ← region f v.1
  vs ← values None before g.1
  Ok (call.Put all v.0 g.0 vs)

abbrev pub get_call : Bool → Form → List Word → Result Call ScriptKind
get_call all f ws = do
  v ← name ws
  g ← region f v.1
  _ ← ended g.1
  Ok (call.Get all v.0 g.0)

abbrev pub post_values : PostKind → ℕ → List Word → Result Values ScriptKind
post_values Iget before ws = whole (Numbers [], ws)
post_values Iput before ws = values None before ws
post_values Bput before ws = values None before ws

abbrev pub is_posted : ℕ → List ℕ → Bool
is_posted id ids = list_any (λ other. id == other) ids

-- an id that is none of these
abbrev pub new_id : List ℕ → List Word → Result (ℕ × List Word) ScriptKind
new_id ids ws = do
  id ← reads_as id_of_text kind.BadNumber ws
  _ ← refuse_if (is_posted id.0 ids) kind.TwiceNamed
  Ok id

-- a post of a rank that has posted these ids
abbrev pub post_call : PostKind → List ℕ → Form → ℕ → List Word → Result Call ScriptKind
post_call k ids f before ws = do
  id ← new_id ids ws
  v ← name id.1
  g ← region f v.1
  vs ← post_values k before g.1
  Ok (call.Post id.0 k v.0 g.0 vs)

-- ---- calls that name no region

-- what stands behind a word of this family
abbrev pub behind : (f : Family) → List Word → Result (Behind f) ScriptKind
behind Requests ws = choice ws
behind Size ws = size ws >>= whole
behind Name ws = name ws >>= whole
behind Record ws = do
  v ← name ws
  n ← size v.1
  whole ((v.0, n.0), n.1)
behind Nothing ws = whole (tt, ws)

-- the call of a row, made by rank r, one of so many
abbrev pub row_call : ℕ → ℕ → CallRow → List Word → Result Call ScriptKind
row_call ranks r row ws = do
  b ← behind row.family ws
  Ok (row.made ranks r b)

abbrev pub plain_call : ℕ → ℕ → List ℕ → List Word → Result Call ScriptKind
plain_call ranks r w ws = do
  row ← or_fault kind.UnknownWord (row_of_text w)
  row_call ranks r row ws

-- ---- a call by its word

-- the kind of a post, and what follows it
abbrev pub post_of_text : List ℕ → Option (PostKind × List ℕ)
post_of_text w =
    elim (after_prefix (codes "iput_") w) [
      | Some f ↦ Some (Iput, f)
      | None ↦ elim (after_prefix (codes "bput_") w) [
        | Some f ↦ Some (Bput, f)
        | None ↦ option_map (λ f. (Iget, f)) (after_prefix (codes "iget_") w)
      ]
    ]

-- a call of rank r, one of so many, by its word; its own calls and so many values have come before
abbrev pub call_of : ℕ → ℕ → List Call → ℕ → List ℕ → List Word → Result Call ScriptKind
call_of ranks r own before w ws =
    elim (after_prefix (codes "put_") w) [
      | Some rest ↦ (or_fault kind.UnknownWord (form_and_all rest) >>= λ f. put_call f.1 f.0 before ws)
      | None ↦ elim (after_prefix (codes "get_") w) [
        | Some rest ↦ (or_fault kind.UnknownWord (form_and_all rest) >>= λ f. get_call f.1 f.0 ws)
        | None ↦ elim (post_of_text w) [
          | Some k ↦ (or_fault kind.UnknownWord (form_of_text k.1) >>= λ f. post_call k.0 (posted own) f before ws)
          | None ↦ plain_call ranks r w ws
        ]
      ]
    ]

-- ---- the calls of all ranks

pub record Called : Type 0 where
  pub calls : List (List Call)  -- one list for each rank
  pub values : ℕ  -- of all attributes and calls

abbrev pub calls_of : ℕ → List (List Call) → List Call
calls_of r calls = unwrap_or (slice_get calls r) []

-- The rank that digits name, however many: one that is not below the number of ranks is no such rank.
abbrev pub rank_of_text : ℕ → List ℕ → Result ℕ ScriptKind
rank_of_text ranks w =
    if begins_rank w then (if nat_lt (digits_value w) ranks then Ok (digits_value w) else Err kind.BadRank) else Err kind.UnknownWord

abbrev pub with_call : ℕ → Call → Called → Called
with_call r c d = record { calls = slice_set d.calls r (calls_of r d.calls ++ c ∷ []); values = d.values + values_in_call c }

-- a call of this rank
abbrev pub call_line : Called → ℕ → List Word → Result Call ScriptKind
call_line d r ws = do
  w ← next ws
  call_of (length d.calls) r (calls_of r d.calls) d.values w.0 w.1

-- what has been called after a line
abbrev pub called_after : Called → List ℕ → List Word → Result Called ScriptKind
called_after d first ws = do
  r ← rank_of_text (length d.calls) first
  c ← call_line d r ws
  Ok (with_call r c d)

-- ---- the ranks agree on their collective kinds

-- the k-th kind of a rank, or that it has none
abbrev pub kind_at : ℕ → List MeetKind → ℕ
kind_at k own = kind_number (slice_get own k)

-- the least rank whose k-th collective kind is not that of rank 0, which has these
abbrev pub differs_at : List (List MeetKind) → List MeetKind → ℕ → Option ℕ
differs_at ranks first k = position (λ own. not (kind_at k own == kind_at k first)) ranks

-- some rank has another k-th kind
abbrev pub is_difference : List (List MeetKind) → List MeetKind → ℕ → Bool
is_difference ranks first k = is_some (differs_at ranks first k)

-- the least such number, up to rank 0's last and one past it, and the least such rank
abbrev pub first_difference : List (List MeetKind) → List MeetKind → Option (ℕ × ℕ)
first_difference ranks first =
    elim (find (is_difference ranks first) (range_with_len 0 (length first + 1))) [
      | None ↦ None
      | Some k ↦ option_map (λ r. (k, r)) (differs_at ranks first k)
    ]

abbrev pub mismatch : List (List MeetKind) → Option ScriptKind
mismatch [] = None
mismatch (first ∷ others) = option_map (λ d. kind.Mismatch d.0 0 d.1) (first_difference (first ∷ others) first)
