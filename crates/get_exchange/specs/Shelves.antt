-- What of the windows of a part is still to be taken, and what the calling thread has of a helper of gets. (own)
--     turns_due shelf             the windows of which the hull was not taken
--     IsShelf list room shelf     what holds of a shelf at every moment
--     part_of worker              the part that the helper was given
--     domain_of worker            the bytes that it serves
--     IsOutfit plan domain outfit what a helper of the domain is given, and the other end of its line
--     IsStartedFor plan worker    its job is that of the plan, and it has the other end of this line
--     IsFresh plan worker         nothing was taken of it, and all windows of its domain are due
use Rattle.std.specs.Prelude.{◌≡◌, ℕ, ◌∷◌, [], map, min, List, Option, Some, None}
use Rattle.nc_base.specs.declared.plan.Extent.{Extent}
use Rattle.nc_base.specs.declared.plan.Owned.{Owned}
use Rattle.file_domains.specs.Rounds.{IsWalk}
use Rattle.file_domains.specs.declared.walk.Window.{Window}
use Rattle.file_domains.specs.declared.walk.WindowWalk.{WindowWalk}
use Rattle.aggregator_rounds.specs.ToldWindows.{told_window}
use Rattle.aggregator_rounds.specs.Left.{entries_left}
use Rattle.exchange_crew.specs.Cursor.{IsAt}
use Rattle.get_exchange.specs.Gets.{get_turns}
use Rattle.exchange_crew.specs.Turns.{Told, turns_ahead}
use Rattle.get_exchange.specs.declared.shelf.Shelf.{Shelf}
use Rattle.get_exchange.specs.declared.handing.Outfit.{Outfit}
use Rattle.get_exchange.specs.declared.handing.ReadWorker.{ReadWorker}
use Rattle.get_exchange.specs.declared.walk.ReadWalk.{ReadWalk}
use Rattle.exchange_crew.specs.declared.plan.GetPlan.{GetPlan}

abbrev pub turns_due_of : Option Window → WindowWalk → List Told
turns_due_of None rest = []
turns_due_of (Some w) rest = told_window w ∷ turns_ahead rest

abbrev pub turns_due : Shelf → List Told
turns_due s = turns_due_of s.next s.walk.windows

-- a window that is next, and what is left
pub record IsNextUp (list : List Owned) (room : ℕ) (w : Window) (walk : ReadWalk) : Type 0 where
  pub ready : IsWalk walk.windows
  pub at : IsAt list room (told_window w ∷ turns_ahead walk.windows) (entries_left walk.entries)

abbrev pub IsShelfOf : List Owned → ℕ → Option Window → ReadWalk → Type 0
IsShelfOf list room None walk = Unit {0}
IsShelfOf list room (Some w) walk = IsNextUp list room w walk

abbrev pub IsShelf : List Owned → ℕ → Shelf → Type 0
IsShelf list room s = IsShelfOf list room s.next s.walk

-- ---- workers

abbrev pub part_of : {D : Type 0} → ReadWorker D → D
part_of worker = worker.helper.awaited.ends.value.part

abbrev pub domain_of : {D : Type 0} → ReadWorker D → Extent
domain_of worker = worker.helper.domain

pub record IsOutfit (plan : GetPlan) (domain : Extent) (outfit : Outfit) : Type 0 where
  pub windows : map told_window outfit.windows.items ≡ get_turns plan domain
  pub line_of : outfit.lines.line.of ≡ outfit.line.of
  pub put : outfit.lines.line.items ≡ []
  pub taken : outfit.line.items ≡ []

pub record IsStartedFor {D : Type 0} (plan : GetPlan) (worker : ReadWorker D) : Type 0 where
  pub windows : map told_window worker.helper.awaited.windows.value.items ≡ get_turns plan (domain_of worker)
  pub line_of : worker.helper.awaited.ends.value.lines.line.of ≡ worker.shelf.line.of

pub record IsFresh {D : Type 0} (plan : GetPlan) (worker : ReadWorker D) : Type 0 where
  pub started : IsStartedFor plan worker
  pub ready : IsShelf plan.list.now (min plan.hints.now.cb_buffer (domain_of worker).len) worker.shelf
  pub taken : worker.shelf.line.items ≡ []
  pub due : turns_due worker.shelf ≡ get_turns plan (domain_of worker)
