-- What the readers give, in the words of the definitions.
use Rattle.std.specs.Prelude.{◌≡◌, List, [], ◌∷◌, Option, Some, None, Result, Ok, Err, ℕ, option_map}
use Rattle.nc_base.specs.declared.errors.ScriptKind.{ScriptKind}
use Rattle.nc_base.specs.declared.errors.ScriptErr.{ScriptErr}
use Rattle.script_words.specs.declared.fault.ReadErr.{ReadErr}
use Rattle.script_words.specs.declared.fault.ReadErr.TheVariants as errors
use Rattle.script_words.specs.declared.fault.LineErr.{LineErr}
use Rattle.script_words.specs.declared.fault.LineErr.TheVariants as line_errors
use Rattle.script_words.specs.declared.words.Token.{Token}
use Rattle.script_words.specs.declared.words.Token.TheVariants as token
use Rattle.script_spec.specs.ScriptWords.{Word, Plain, Quoted, Broken}

-- What a function returned, seen by view, is what the definition gives, unless memory ran out.
abbrev pub Fails : {Y : Type 0} → ReadErr → Result Y ScriptKind → Type 0
Fails errors.Memory read = Unit {0}
Fails (errors.Fault f) read = read ≡ Err f

abbrev pub Gives : {X Y : Type 0} → (X → Y) → Result X ReadErr → Result Y ScriptKind → Type 0
Gives view (Ok x) read = read ≡ Ok (view x)
Gives view (Err e) read = Fails e read

abbrev pub FailsAt : {Y : Type 0} → LineErr → Result Y ScriptErr → Type 0
FailsAt line_errors.Memory read = Unit {0}
FailsAt (line_errors.Fault e) read = read ≡ Err e

abbrev pub GivesAt : {X Y : Type 0} → (X → Y) → Result X LineErr → Result Y ScriptErr → Type 0
GivesAt view (Ok x) read = read ≡ Ok (view x)
GivesAt view (Err e) read = FailsAt e read

abbrev pub word_of : Token → Word
word_of (token.Plain w) = Plain w.now
word_of (token.Quoted v) = Quoted v.items
word_of token.Broken = Broken

-- the first of the words before, and the words after it; or there is none
abbrev pub TakesWord : Option Token → List Word → List Word → Type 0
TakesWord None old new = old ≡ []
TakesWord (Some t) old new = old ≡ word_of t ∷ new

-- the same of a list of texts
abbrev pub TakesFirst : {X Y : Type 0} → (X → Y) → Option X → List Y → List Y → Type 0
TakesFirst view None old new = old ≡ []
TakesFirst view (Some x) old new = old ≡ view x ∷ new

-- what the first word says, and the words behind it
abbrev pub first_for : {A : Type 0} → (List ℕ → Option A) → List Word → Option (A × List Word)
first_for f (Plain w ∷ ws) = option_map (λ x. (x, ws)) (f w)
first_for f _ = None
