-- Steps from word to word of a line of a script: each gives what it says and the words after it, or its fault. (own)
--     reads_as f e words        the next word, by what f reads in it
--     refuse_if, or_fault       where a line ends with a fault
--     by_word rows .. w words   what w and the words after it say, by a table of words and what reads those after them
--     ended, whole              nothing follows
use Rattle.std.specs.Prelude.{bytes_eq, ℕ, List, [], ◌∷◌, Bool, true, false, if◌then◌else◌, Option, Some, None, Result, Ok, Err}
use Rattle.nc_base.specs.declared.errors.ScriptKind.{ScriptKind}
use Rattle.nc_base.specs.declared.errors.ScriptKind.TheVariants as kind
use Rattle.script_spec.specs.ScriptWords.{Word, Plain, Quoted, Broken, size_of_text, is_name, list_of_text}

-- ---- steps from word to word: each gives what it says and the words after it, or its fault

-- one step and the next, or the first fault
infixl 10 ◌>>=◌
abbrev pub ◌>>=◌ : {A B E : Type 0} → Result A E → (A → Result B E) → Result B E
(Ok x) >>= f = f x
(Err e) >>= f = Err e

-- the fault if the test holds, and else nothing
abbrev pub refuse_if : Bool → ScriptKind → Result (Unit {0}) ScriptKind
refuse_if b e = if b then Err e else Ok tt

-- what is there, or the fault
abbrev pub or_fault : {A : Type 0} → ScriptKind → Option A → Result A ScriptKind
or_fault e None = Err e
or_fault e (Some x) = Ok x

-- A word as it stands: a text that is no text is refused where it is looked at, and a text is no other word: it counts as a
-- lone quote (34), which no word is.
abbrev pub bare : Word → Result (List ℕ) ScriptKind
bare (Plain w) = Ok w
bare (Quoted text) = Ok (34 ∷ [])
bare Broken = Err kind.BadText

-- the next word and those after it
abbrev pub next : List Word → Result (List ℕ × List Word) ScriptKind
next [] = Err kind.MissingWord
next (w ∷ ws) = bare w >>= λ x. Ok (x, ws)

-- the next word, which this reads, or else has this fault
abbrev pub reads_as : {A : Type 0} → (List ℕ → Option A) → ScriptKind → List Word → Result (A × List Word) ScriptKind
reads_as f e ws = do
  w ← next ws
  x ← or_fault e (f w.0)
  Ok (x, w.1)

abbrev pub size : List Word → Result (ℕ × List Word) ScriptKind
size ws = reads_as size_of_text kind.BadNumber ws

abbrev pub list : List Word → Result (List ℕ × List Word) ScriptKind
list ws = reads_as list_of_text kind.BadNumber ws

abbrev pub name_of_text : List ℕ → Option (List ℕ)
name_of_text w = if is_name w then Some w else None

abbrev pub name : List Word → Result (List ℕ × List Word) ScriptKind
name ws = reads_as name_of_text kind.BadName ws

-- a table of rows, each a word and what reads the words after it
abbrev pub Readers : Type 0 → Type 0
Readers A = List (List ℕ × (List Word → Result A ScriptKind))

-- the word w and the words after it, as the row of w reads them, or as `otherwise` does where there is none
abbrev pub by_word : {A : Type 0} → Readers A → (List Word → Result A ScriptKind) → List ℕ → List Word → Result A ScriptKind
by_word [] otherwise w ws = otherwise ws
by_word ((word, read) ∷ rows) otherwise w ws = elim (bytes_eq w word) [ true ↦ read ws | false ↦ by_word rows otherwise w ws ]

-- no word may stand here
abbrev pub refused : {A : Type 0} → ScriptKind → List Word → Result A ScriptKind
refused e ws = Err e

-- nothing may follow a whole line
abbrev pub ended : List Word → Result (Unit {0}) ScriptKind
ended [] = Ok tt
ended (w ∷ ws) = bare w >>= λ x. Err kind.ExtraWord

abbrev pub whole : {A : Type 0} → A × List Word → Result A ScriptKind
whole (x, ws) = ended ws >>= λ u. Ok x
