-- The rule of a board, and what its steps tell an end. (own)
--     Keeps shown ends              what is shown is the summary of all that was told, and each end that has heard anything has heard a beginning of that
--     Reads before shown now        an end has read the summary of what it has then heard, which goes on from what it had heard
--     TellsMore before shown now    the end has heard one pair more: the mark that is shown, with the count that is shown
use Rattle.std.specs.Prelude.{◌≡◌, List, Option, Some, IfSome, All}
use Rattle.nc_base.specs.declared.step.Mark.{Mark}
use Rattle.nc_outside.specs.Told.{after}
use Rattle.run_watch.specs.declared.rule.Heard.{Heard}
use Rattle.run_watch.specs.declared.rule.Shown.{Shown}
use Rattle.run_watch.specs.Heard.{summary, with_pair, IsBeginning}

-- what an end has heard, if anything, is a beginning of what was told
abbrev pub HeardOf : Heard → Option Heard → Type 0
HeardOf told heard = IfSome heard (λ early. IsBeginning early told)

abbrev pub Keeps : Shown → List (Option Heard) → Type 0
Keeps shown ends = (told : Heard) × (shown.summary ≡ summary told) × All (HeardOf told) ends

abbrev pub Reads : Option Heard → Shown → Option Heard → Type 0
Reads before shown now = (late : Heard) × (now ≡ Some late) × (shown.summary ≡ summary late) × HeardOf late before

abbrev pub TellsMore : Option Heard → Shown → Option Heard → Type 0
TellsMore before shown now = (mark : Mark) → shown.last ≡ Some mark → now ≡ after (λ told. with_pair told mark shown.summary.records) before
