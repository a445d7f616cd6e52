-- The windows of one part, one after another, each told by its hull: first byte, length, whether it has no hole. (own; after Thakur,
-- Gropp and Lusk, "Data Sieving and Collective I/O in ROMIO", 1999, section 5)
--     turns_of size domain cover       the windows of a domain's covered bytes
--     turns_ahead windows              the windows that a walk over them has still to give
--     IsTurnWalk walk                  what holds of a walk at every moment
--     source_of batches                the bytes of the put in a slot of a rank
use Rattle.std.specs.Prelude.{ℕ, ◌+◌, ◌^◌, ◌<◌, List, [], map, Bool, Option, Some, None, slice_get}
use Rattle.nc_base.specs.declared.plan.Batch.{Batch}
use Rattle.nc_base.specs.declared.plan.Extent.{Extent}
use Rattle.nc_base.specs.declared.plan.Post.{Post}
use Rattle.overlay_laws.specs.Entries.{Source, In}
use Rattle.overlay_laws.specs.Lines.{extents, IsByPlace, EndBelow}
use Rattle.overlay_laws.specs.Walks.{told_of}
use Rattle.serial_spec.specs.DeviceCalls.{windows}
use Rattle.file_domains.specs.Rounds.{bytes_in, windows_left, IsWalk}
use Rattle.aggregator_rounds.specs.ToldWindows.{told_window}
use Rattle.aggregator_rounds.specs.EntryParts.{bytes_of_post}
use Rattle.file_domains.specs.declared.walk.WindowWalk.{WindowWalk}
use Rattle.exchange_crew.specs.declared.walk.TurnWalk.{TurnWalk}

-- first byte, length, whether it has no hole
abbrev pub Told : Type 0
Told = ℕ × ℕ × Bool

abbrev pub turns_of : ℕ → Extent → List Extent → List Told
turns_of size domain cover = map told_of (windows size (bytes_in domain cover))

abbrev pub turns_ahead : WindowWalk → List Told
turns_ahead w = map told_window (windows_left w)

pub record IsTurnWalk (w : TurnWalk) : Type 0 where
  pub walk : IsWalk w.windows
  pub sorted : IsByPlace (extents w.entries.now)
  pub ends : EndBelow (2 ^ 62) (extents w.entries.now)
  pub limit : (t : Told) → In (turns_ahead w.windows) t → t.0 + t.1 < 2 ^ 62

-- ---- puts

abbrev pub puts_of_some : Option Batch → List Post
puts_of_some None = []
puts_of_some (Some b) = b.puts

abbrev pub source_of : List Batch → Source
source_of batches rank slot = bytes_of_post (slice_get (puts_of_some (slice_get batches rank)) slot)
