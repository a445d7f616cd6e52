-- Windows of a part whose messages are due. (own)
--     turns_due dues              the windows
--     counts_due dues             how many messages each has
--     AreDue from len room ts     windows on a part that begins at `from` and has so many bytes, each no longer than the room
use Rattle.std.specs.Prelude.{ℕ, ◌+◌, ◌<◌, ◌^◌, ◌≤◌, List, map}
use Rattle.aggregator_rounds.specs.ToldWindows.{told_window}
use Rattle.overlay_laws.specs.Entries.{In}
use Rattle.exchange_crew.specs.Hulls.{LieOnPart}
use Rattle.exchange_crew.specs.Turns.{Told}
use Rattle.put_exchange.specs.declared.laying.Due.{Due}

abbrev pub turns_due : List Due → List Told
turns_due dues = map (λ due. told_window due.window) dues

abbrev pub counts_due : List Due → List ℕ
counts_due dues = map (λ due. due.count) dues

pub record AreDue (from len room : ℕ) (ts : List Told) : Type 0 where
  pub on_part : LieOnPart from len ts
  pub short : (t : Told) → In ts t → t.1 ≤ room
  pub limit : (t : Told) → In ts t → t.0 + t.1 < 2 ^ 62
