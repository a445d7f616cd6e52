-- What the gets of a step come to, and what is read of a part. (own)
--     IsGetPlan list cover size       sorted entries of the gets, none empty, their cover, and the bytes of a window
--     IsGetPlanned plan               the same, of what an exchange is lent
--     get_turns plan domain           the windows of a domain
--     reading_of from file t          the file's bytes in a window's hull, of a part that begins at `from`
--     HasGot ts old new end           the hulls of windows were read of a part, or the reads were cut off
--     AreRead ts from held taken      what was taken are the hulls of windows, as far as it goes
--     entries_in turn                 the entries of a window
use Rattle.std.specs.Prelude.{◌≡◌, ℕ, ◌-◌, ◌^◌, ◌≤◌, List, map, flat_map, length, Option, IfSome, Result, OnOk, ◌++◌}
use Rattle.nc_base.specs.declared.plan.Extent.{Extent}
use Rattle.nc_base.specs.declared.plan.Owned.{Owned}
use Rattle.nc_outside.specs.Told.{with_end}
use Rattle.overlay_laws.specs.Changes.{load_calls}
use Rattle.overlay_laws.specs.Entries.{ranges, HaveSame}
use Rattle.overlay_laws.specs.Lines.{extents, EndBelow, IsByPlace}
use Rattle.overlay_laws.specs.Walks.{IsCover}
use Rattle.serial_spec.specs.Extents.{spans}
use Rattle.serial_spec.specs.File.{read}
use Rattle.aggregator_rounds.specs.EntryParts.{AreFilled}
use Rattle.exchange_crew.specs.Parts.{PartState}
use Rattle.exchange_crew.specs.Turns.{Told, turns_of}
use Rattle.get_exchange.specs.declared.reading.Reading.{Reading}
use Rattle.get_exchange.specs.declared.reading.Reading.TheVariants.{Hull}
use Rattle.exchange_crew.specs.declared.plan.GetPlan.{GetPlan}
use mathlib.Core.List.{IsPrefix}
use Rattle.get_exchange.specs.declared.walk.ReadTurn.{ReadTurn}

pub record IsGetPlan (list : List Owned) (cover : List Extent) (size : ℕ) : Type 0 where
  pub sorted : IsByPlace (extents list)
  pub ends : EndBelow (2 ^ 62) (extents list)
  pub filled : AreFilled list
  pub covers : IsCover cover
  pub cover_ends : EndBelow (2 ^ 62) cover
  pub cover_bytes : HaveSame (spans cover) (ranges list)
  pub some : 1 ≤ size

abbrev pub IsGetPlanned : GetPlan → Type 0
IsGetPlanned p = IsGetPlan p.list.now p.cover.now p.hints.now.cb_buffer

abbrev pub get_turns : GetPlan → Extent → List Told
get_turns p domain = turns_of p.hints.now.cb_buffer domain p.cover.now

abbrev pub reading_of : ℕ → List ℕ → Told → Reading
reading_of from file t = Hull (read file (t.0 - from) t.1)

pub record HasGot {T E : Type 0} (ts : List Told) (old new : PartState) (end : Result T E) : Type 0 where
  pub from : new.from ≡ old.from
  pub len : new.len ≡ old.len
  pub held : new.held ≡ old.held
  pub device : OnOk end (new.calls ≡ with_end old.calls (flat_map load_calls ts))
  pub later : old.faults ≤ new.faults

pub record AreRead (ts : List Told) (from : ℕ) (held : Option (List ℕ)) (taken : List Reading) : Type 0 where
  pub front : IfSome held (λ file. IsPrefix taken (map (λ t. reading_of from file t) ts))
  pub whole : length taken ≡ length ts → IfSome held (λ file. taken ≡ map (λ t. reading_of from file t) ts)

abbrev pub entries_in : ReadTurn → List Owned
entries_in turn = turn.carried.now ++ turn.fresh.now
