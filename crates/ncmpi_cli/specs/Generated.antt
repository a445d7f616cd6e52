-- What a run of a made script did.
--     script_made seed size      the script
--     made_header seed size      the header of its dataset
--     new_end, summed            what its calls lead to in an order, and the text that sums that up
--     SumsUp                     what the text tells whatever the file holds
--     RanMade                    the order is legal, and file, device calls and text are those of the calls done one after another in it
--     MadeWhole, MadeFront       the text was given whole, or a front of it
use Rattle.std.specs.Prelude.{ℕ, ◌≡◌, ◌⊎◌, List, take, Some, IfSome}
use Rattle.nc_base.specs.declared.header.Header.{Header}
use Rattle.nc_base.specs.declared.script.Script.{Script}
use Rattle.nc_base.specs.declared.step.Mark.{Mark}
use Rattle.nc_outside.specs.Told.{after, with_end}
use Rattle.serial_spec.specs.DeviceCalls.{all_calls}
use Rattle.serial_spec.specs.History.{IsLegal}
use Rattle.serial_spec.specs.SerialEnd.{End, serial}
use Rattle.join_laws.specs.Alike.{AreAlikeEnds}
use Rattle.script_spec.specs.Generator.{made_script, summary_text}
use Rattle.dataset_start.specs.Dataset.{created_header}
use Rattle.ncmpi_cli.specs.Outside.{Output}

-- the script that the seed makes, with so many records
unfoldable pub script_made : ℕ → ℕ → Script
script_made seed size = made_script seed size

abbrev pub made_header : ℕ → ℕ → Header
made_header seed size = created_header (script_made seed size)

-- what the calls of a script lead to, done one after another in the order, on a new dataset
abbrev pub new_end : Script → List ℕ → List Mark → End
new_end script file order = serial script (created_header script) file order

abbrev pub summed : ℕ → ℕ → Script → List Mark → End → List ℕ
summed seed size script order end = summary_text seed size script (record (created_header script) { records = end.records }) order end.answers

-- the text sums up an end that differs from that of the calls, on any file, in the values that gets gave alone
pub record SumsUp (seed size : ℕ) (order : List Mark) (text : List ℕ) : Type 0 where
  pub end : End
  pub alike : (file : List ℕ) → AreAlikeEnds end (new_end (script_made seed size) file order)
  pub whole : text ≡ summed seed size (script_made seed size) order end

-- what was done, to a file that is told, and what the text tells of any other
pub record RanMade (seed size : ℕ) (before now : Output) (order : List Mark) (text : List ℕ) : Type 0 where
  pub legal : IsLegal (script_made seed size) order
  pub bytes : IfSome before.held (λ file. now.held ≡ Some (new_end (script_made seed size) file order).bytes)
  pub calls : IfSome before.held (λ file. now.calls ≡ after (λ _. all_calls (script_made seed size) (made_header seed size) (made_header seed size) file order) before.calls)
  pub sums : SumsUp seed size order text
  pub lines : IfSome before.held (λ file. text ≡ summed seed size (script_made seed size) order (new_end (script_made seed size) file order))

-- the same, with the text given whole
pub record MadeWhole (seed size : ℕ) (before now : Output) (order : List Mark) : Type 0 where
  pub text : List ℕ
  pub ran : RanMade seed size before now order text
  pub given : now.given ≡ with_end before.given text

-- the same, with a front of the text given
pub record MadeFront (seed size : ℕ) (before now : Output) (order : List Mark) : Type 0 where
  pub text : List ℕ
  pub count : ℕ
  pub ran : RanMade seed size before now order text
  pub given : now.given ≡ with_end before.given (take count text)

-- the statuses with which such a run may end
abbrev pub IsMadeStatus : ℕ → Type 0
IsMadeStatus status = (status ≡ 0) ⊎ ((status ≡ 6) ⊎ ((status ≡ 7) ⊎ (status ≡ 8)))
