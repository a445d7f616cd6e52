-- What puts make of a part of a disk. (own)
--     put_part source list from file     the part that begins at `from`, with the bytes that entries say of it
--     HasPut source list ts old new end  the puts of windows were done on a part, or were cut off
use Rattle.std.specs.Prelude.{◌≡◌, ℕ, ◌+◌, ◌≤◌, List, map, flat_map, length, Result, OnOk}
use Rattle.nc_base.specs.declared.plan.Owned.{Owned}
use Rattle.nc_outside.specs.Told.{after, with_end, BothTold}
use Rattle.overlay_laws.specs.Changes.{store_calls, IsBetween}
use Rattle.overlay_laws.specs.Entries.{Source, cell_of}
use Rattle.overlay_laws.specs.Windows.{clips}
use Rattle.serial_spec.specs.Said.{write_cells, moved_down}
use Rattle.exchange_crew.specs.Turns.{Told}
use Rattle.exchange_crew.specs.Parts.{PartState}

abbrev pub put_part : Source → List Owned → ℕ → List ℕ → List ℕ
put_part source list from file = write_cells file (moved_down from (clips from (from + length file) (map (λ o. cell_of source o) list)))

pub record HasPut {T E : Type 0} (source : Source) (list : List Owned) (ts : List Told) (old new : PartState) (end : Result T E) : Type 0 where
  pub from : new.from ≡ old.from
  pub len : new.len ≡ old.len
  pub bytes : OnOk end (new.held ≡ after (put_part source list old.from) old.held)
  -- each byte is old or new, also where the puts were cut off
  pub between : BothTold (λ file left. IsBetween file (put_part source list old.from file) left) old.held new.held
  pub device : OnOk end (new.calls ≡ with_end old.calls (flat_map store_calls ts))
  pub later : old.faults ≤ new.faults
