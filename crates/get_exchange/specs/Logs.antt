-- Hulls that were read and collected, in whatever order, each with its bytes. (own)
--     Log                                      hulls, each with its bytes
--     told_in log                              the hulls
--     log_cells list log                       the bytes that entries have in the hulls, each at its place in its blob
--     HasCollectedLog list log old new         each blob with the bytes that its entries have in the hulls
--     HasReadTurn list from held t ..          a hull was read of the part that begins at `from`, and collected
--     HasReadTurns list ts from held ..        the same of hulls one after another
--     IsReadOf from held plan pairs e          a hull of a log was read of one of many parts, each beside its domain
--     HasReadParts from held plan pairs ..     all windows of the parts were read, and collected
--     IsShelfIn list shelf                     what holds of a shelf at every moment, whatever the room of a window
--     HasTaken own old new                     hulls were taken off a shelf's line
--     HasTakenTurn list old new ..             and collected
--     HasTakenOf log old new                   hulls were taken off a shelf's line, and stand in a log
--     IsTakenOf olds news e                    a hull of a log was taken off the line of one of the helpers
--     HaveTakenTurns list olds news ..         hulls were taken off the lines of helpers, and collected
--     IsKept old new                           the helper and its line are as they were
use Rattle.std.specs.Prelude.{◌≡◌, ℕ, ◌+◌, ◌-◌, List, ◌++◌, map, flat_map, length, Option, Some, IfSome, slice_get}
use Rattle.nc_base.specs.declared.plan.Extent.{Extent}
use Rattle.nc_base.specs.declared.plan.Owned.{Owned}
use Rattle.aggregator_rounds.specs.EntryParts.{buffer_cell}
use Rattle.overlay_laws.specs.Entries.{In}
use Rattle.serial_spec.specs.File.{read}
use Rattle.serial_spec.specs.Said.{Cell, write_cells}
use Rattle.get_exchange.specs.Blobs.{blob_at, of_request, HasCollected}
use Rattle.get_exchange.specs.Gets.{get_turns}
use Rattle.get_exchange.specs.Shelves.{turns_due, IsShelf}
use Rattle.exchange_crew.specs.Turns.{Told}
use Rattle.get_exchange.specs.declared.reading.Reading.TheVariants.{Hull}
use Rattle.get_exchange.specs.declared.shelf.Shelf.{Shelf}
use Rattle.get_exchange.specs.declared.handing.ReadWorker.{ReadWorker}
use Rattle.exchange_crew.specs.declared.plan.GetPlan.{GetPlan}

abbrev pub Log : Type 0
Log = List (Told × List ℕ)

abbrev pub told_in : Log → List Told
told_in log = map (λ e. e.0) log

abbrev pub log_cells : List Owned → Log → List Cell
log_cells list log = flat_map (λ e. map (λ o. buffer_cell e.0.0 (e.0.0 + e.0.1) e.1 o) list) log

abbrev pub HasCollectedLog : List Owned → Log → List (List (List ℕ)) → List (List (List ℕ)) → Type 0
HasCollectedLog list log old new =
    (rank slot : ℕ) → blob_at new rank slot ≡ write_cells (blob_at old rank slot) (log_cells (of_request rank slot list) log)

-- ---- hulls of one part, read on the calling thread

pub record HasReadTurn (list : List Owned) (from : ℕ) (held : Option (List ℕ)) (t : Told) (old new : List (List (List ℕ))) : Type 0 where
  pub bytes : List ℕ
  pub long : length bytes ≡ t.1
  pub told : IfSome held (λ file. bytes ≡ read file (t.0 - from) t.1)
  pub collected : HasCollected t.0 (t.0 + t.1) bytes list old new

pub record HasReadTurns (list : List Owned) (ts : List Told) (from : ℕ) (held : Option (List ℕ)) (old new : List (List (List ℕ))) : Type 0 where
  pub log : Log
  pub turns : told_in log ≡ ts
  pub told : IfSome held (λ file. (e : Told × List ℕ) → In log e → e.1 ≡ read file (e.0.0 - from) e.0.1)
  pub collected : HasCollectedLog list log old new

-- ---- hulls of many parts, each part beside its domain

pub record IsReadOf {D : Type 0} (from : D → ℕ) (held : D → Option (List ℕ)) (plan : GetPlan) (pairs : List (D × Extent)) (e : Told × List ℕ) : Type 0 where
  pub pair : D × Extent
  pub inside : In pairs pair
  pub turn : In (get_turns plan pair.1) e.0
  pub told : IfSome (held pair.0) (λ file. e.1 ≡ read file (e.0.0 - from pair.0) e.0.1)

pub record HasReadParts {D : Type 0} (from : D → ℕ) (held : D → Option (List ℕ)) (plan : GetPlan) (pairs : List (D × Extent)) (old new : List (List (List ℕ))) : Type 0 where
  pub log : Log
  pub collected : HasCollectedLog plan.list.now log old new
  pub all : (pair : D × Extent) (t : Told) → In pairs pair → In (get_turns plan pair.1) t → In (told_in log) t
  pub only : (e : Told × List ℕ) → In log e → IsReadOf from held plan pairs e

-- ---- hulls that helpers read

abbrev pub IsShelfIn : List Owned → Shelf → Type 0
IsShelfIn list shelf = (room : ℕ) × IsShelf list room shelf

pub record HasTaken (own : Log) (old new : Shelf) : Type 0 where
  pub turns : told_in own ++ turns_due new ≡ turns_due old
  pub items : new.line.items ≡ old.line.items ++ map (λ e. Hull e.1) own

pub record HasTakenTurn (list : List Owned) (old new : Shelf) (before now : List (List (List ℕ))) : Type 0 where
  pub own : Log
  pub taken : HasTaken own old new
  pub collected : HasCollectedLog list own before now

pub record HasTakenOf (log : Log) (old new : Shelf) : Type 0 where
  pub own : Log
  pub taken : HasTaken own old new
  pub inside : (e : Told × List ℕ) → In own e → In log e

pub record IsTakenOf {D : Type 0} (olds news : List (ReadWorker D)) (e : Told × List ℕ) : Type 0 where
  pub number : ℕ
  pub old : ReadWorker D
  pub new : ReadWorker D
  pub at_old : slice_get olds number ≡ Some old
  pub at_new : slice_get news number ≡ Some new
  pub own : Log
  pub taken : HasTaken own old.shelf new.shelf
  pub inside : In own e

pub record HaveTakenTurns {D : Type 0} (list : List Owned) (olds news : List (ReadWorker D)) (before now : List (List (List ℕ))) : Type 0 where
  pub log : Log
  pub collected : HasCollectedLog list log before now
  pub each : (k : ℕ) (old new : ReadWorker D) → slice_get olds k ≡ Some old → slice_get news k ≡ Some new → HasTakenOf log old.shelf new.shelf
  pub only : (e : Told × List ℕ) → In log e → IsTakenOf olds news e

pub record IsKept {D : Type 0} (old new : ReadWorker D) : Type 0 where
  pub helper : new.helper ≡ old.helper
  pub of : new.shelf.line.of ≡ old.shelf.line.of
