-- What the words of a line spell of a call. (own)
--     SpellsCall words call     the words behind a call's own word spell it
--     SpellsCallLine words c    the words of a line spell a call of a rank
use Rattle.std.specs.Prelude.{◌≡◌, ℕ, List, [], ◌∷◌, ◌++◌, true, Some, None, codes}
use Rattle.nc_base.specs.declared.request.Values.{Values}
use Rattle.nc_base.specs.declared.request.Values.TheVariants.{Numbers}
use Rattle.nc_base.specs.declared.request.PostKind.{PostKind}
use Rattle.nc_base.specs.declared.request.PostKind.TheVariants.{Iget}
use Rattle.nc_base.specs.declared.request.Choice.{Choice}
use Rattle.nc_base.specs.declared.request.Choice.TheVariants.{Every, Listed}
use Rattle.nc_base.specs.declared.request.Given.{Given}
use Rattle.nc_base.specs.declared.request.Call.{Call}
use Rattle.nc_base.specs.declared.request.Call.TheVariants as call
use Rattle.script_spec.specs.Texts.{call_word}
use Rattle.script_spec.specs.ScriptWords.{Word, Plain, begins_rank, digits_value, size_of_text, is_name}
use Rattle.script_spec.specs.CallTable.{Family, Requests, Size, Name, Record, Nothing, Behind, CallRow, row_of}
use Rattle.script_spec.specs.ScriptCalls.{id_of_text}
use Rattle.script_spelling.specs.SpelledValues.{Each, SpellsRegion, SpellsValues}

-- an `iget` has no values
abbrev pub SpellsPosted : PostKind → List Word → Values → Type 0
SpellsPosted Iget words vs = (words ≡ []) × (vs ≡ Numbers [])
SpellsPosted kind words vs = SpellsValues None words vs

abbrev pub SpellsChoice : List Word → Choice → Type 0
SpellsChoice words Every = words ≡ Plain (codes "all") ∷ []
SpellsChoice words (Listed ids) = Each id_of_text words ids

-- the name of a variable, then its region
abbrev pub SpellsPlace : List Word → List ℕ → Given → Type 0
SpellsPlace words name given = (region : List Word) × (words ≡ Plain name ∷ region) × (is_name name ≡ true) × SpellsRegion region given

-- what stands behind the word of a call that names no region
abbrev pub SpellsBehind : List Word → (f : Family) → Behind f → Type 0
SpellsBehind words Requests choice = SpellsChoice words choice
SpellsBehind words Size size = (w : List ℕ) × (words ≡ Plain w ∷ []) × (size_of_text w ≡ Some size)
SpellsBehind words Name name = (words ≡ Plain name ∷ []) × (is_name name ≡ true)
SpellsBehind words Record (name, number) = (w : List ℕ) × (words ≡ Plain name ∷ Plain w ∷ []) × (is_name name ≡ true) × (size_of_text w ≡ Some number)
SpellsBehind words Nothing _ = words ≡ []

abbrev pub SpellsInRow : List Word → CallRow → Call → Type 0
SpellsInRow words row c = elim (row.seen c) [ None ↦ words ≡ [] | Some b ↦ SpellsBehind words row.family b ]

abbrev pub SpellsPlain : List Word → Call → Type 0
SpellsPlain words c = elim (row_of c) [ None ↦ words ≡ [] | Some row ↦ SpellsInRow words row c ]

abbrev pub SpellsCall : List Word → Call → Type 0
SpellsCall words (call.Put all name given vs) = (place values : List Word) × (words ≡ place ++ values) × SpellsPlace place name given × SpellsValues None values vs
SpellsCall words (call.Get all name given) = SpellsPlace words name given
SpellsCall words (call.Post id kind name given vs) =
    (w : List ℕ) × (place values : List Word) × (words ≡ Plain w ∷ place ++ values) × (id_of_text w ≡ Some id) × SpellsPlace place name given
    × SpellsPosted kind values vs
SpellsCall words c = SpellsPlain words c

-- RANK CALL
abbrev pub SpellsCallLine : List Word → ℕ × Call → Type 0
SpellsCallLine words (r, c) =
    (w : List ℕ) × (more : List Word) × (words ≡ Plain w ∷ Plain (call_word c) ∷ more) × (begins_rank w ≡ true) × (digits_value w ≡ r) × SpellsCall more c
