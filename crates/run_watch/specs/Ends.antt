-- What the ends of a board have heard. (own)
--     Shows told heard shown waiting    a board that was told this shows the summary of it, and has nothing more to show
--     heard_by reader first             what a view has heard: what its reader has heard, or what it began with where it has no reader
--     HasHeard reader                   the reader, if there is one, has heard something
use Rattle.std.specs.Prelude.{◌≡◌, List, [], Option, Some, None, IfSome, IsSome, unwrap_or}
use Rattle.run_watch.specs.declared.rule.Heard.{Heard}
use Rattle.run_watch.specs.declared.rule.Shown.{Shown}
use Rattle.run_watch.specs.Heard.{summary}

abbrev pub Shows : Heard → Option Heard → Shown → List Shown → Type 0
Shows told heard shown waiting = (heard ≡ Some told) × (shown.summary ≡ summary told) × (waiting ≡ [])

abbrev pub heard_by : Option (Option Heard) → Heard → Heard
heard_by None first = first
heard_by (Some heard) first = unwrap_or heard first

abbrev pub HasHeard : Option (Option Heard) → Type 0
HasHeard reader = IfSome reader (λ heard. IsSome heard)
