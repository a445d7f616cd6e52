-- The extents of a region, as the iterator has them left. (own)
--     extents_from r k      those of the elements from run k on
--     extents_left e        those that it has still to give
--     run_place r k         the first byte of run k
--     AreReady r            what holds of the runs of a region
--     IsRunOf r run         one of them, where it lies with those after it in its row; behind the last one, none
--     IsReady e             what holds of the iterator at every moment
use Rattle.std.specs.Prelude.{◌≡◌, ℕ, ◌+◌, ◌*◌, ◌^◌, ◌<◌, ◌≤◌, List, drop, true, Some, slice_get}
use Rattle.nc_base.specs.declared.plan.Extent.{Extent}
use Rattle.serial_spec.specs.ExternalForm.{size_of}
use Rattle.serial_spec.specs.SoundHeaders.{is_sound}
use Rattle.serial_spec.specs.Layout.{product, recsize}
use Rattle.serial_spec.specs.Place.{place}
use Rattle.vara_extents.specs.declared.walk.Extents.{Extents}
use Rattle.vara_extents.specs.declared.walk.Run.{Run}
use Rattle.vara_extents.specs.declared.walk.Runs.{Runs}
use Rattle.vara_extents.specs.Accepted.{IsAccepted}
use Rattle.vara_extents.specs.Joined.{element_extents, joined}
use Rattle.vara_extents.specs.Numbered.{index_of, AreRuns}

abbrev pub extents_from : Runs → ℕ → List Extent
extents_from r k = joined (drop (k * r.elements) (element_extents r.header.now r.var.now r.region.now))

abbrev pub extents_left : Extents → List Extent
extents_left e = extents_from e.runs e.next.number

abbrev pub run_place : Runs → ℕ → ℕ
run_place r k = place r.header.now r.var.now (index_of r.region.now (k * r.elements))

pub record AreReady (r : Runs) : Type 0 where
  pub sound : is_sound r.header.now ≡ true
  pub accepted : (k : ℕ) × (slice_get r.header.now.vars k ≡ Some r.var.now) × IsAccepted r.header.now k r.region.now
  pub recsize : r.recsize ≡ recsize r.header.now
  pub follow : AreRuns (λ k. place r.header.now r.var.now (index_of r.region.now k)) (size_of r.var.now.kind) r.elements (product r.region.now.count)
  pub total : product r.region.now.count ≡ r.count * r.elements
  pub rows : AreRuns (run_place r) r.row.step r.row.runs r.count
  pub low : r.row.step ≤ 2 ^ 62

pub record IsRunOf (r : Runs) (run : Run) : Type 0 where
  pub within : run.number ≤ r.count
  pub at : (i : ℕ) → i ≤ run.left → run.number + i < r.count → run.at + i * r.row.step ≡ run_place r (run.number + i)

pub record IsReady (e : Extents) : Type 0 where
  pub runs : AreReady e.runs
  pub next : IsRunOf e.runs e.next
