-- What a helper of gets gives back. (own)
--     HasFetched ..      it put the hull of each window on its line, or was refused
--     HasGivenBack ..    the ends came back, of a part that it served so
use Rattle.std.specs.Prelude.{◌≡◌, List, length, map, Result, IfSome, IsErrOf, OnOk}
use Rattle.nc_outside.specs.Cause.{Rose}
use Rattle.nc_base.specs.declared.step.StepErr.{StepErr}
use Rattle.nc_base.specs.declared.step.StepErr.TheVariants.{Disk}
use Rattle.nc_outside.specs.declared.disk.Disk.{Ghosts as DiskGhosts}
use Rattle.get_exchange.specs.Gets.{reading_of, HasGot}
use Rattle.exchange_crew.specs.Parts.{part_state, PartState}
use Rattle.exchange_crew.specs.Turns.{Told}
use Rattle.exchange_crew.specs.declared.errand.PartBack.{PartBack}
use Rattle.exchange_crew.specs.declared.errand.PartEnds.{PartEnds}
use Rattle.get_exchange.specs.declared.helper.GetLines.{GetLines}
use Rattle.get_exchange.specs.declared.reading.Reading.{Reading}

pub record HasFetched {T : Type 0} (ts : List Told) (old new : PartState) (put : List Reading) (end : Result T StepErr) : Type 0 where
  pub many : OnOk end (length put ≡ length ts)
  pub read : OnOk end (IfSome old.held (λ file. put ≡ map (λ t. reading_of old.from file t) ts))
  pub got : HasGot ts old new end
  pub failed : IsErrOf end Disk → Rose old.faults new.faults

pub record HasGivenBack {D : Type 0} (disk : DiskGhosts D) (ts : List Told) (ends : PartEnds D GetLines) (back : PartBack D GetLines) : Type 0 where
  pub line_of : back.ends.lines.line.of ≡ ends.lines.line.of
  pub fetched : HasFetched ts (part_state disk ends.part) (part_state disk back.ends.part) back.ends.lines.line.items back.end
