-- A rank, as contracts see it: the header of the dataset, and its state. (PnetCDF C API reference; the state is that of serial_spec)
--     WaitsFor rank want        it waits for the reply to what it offers, whose gets it keeps, and else for none
use Rattle.std.specs.Prelude.{◌≡◌, None, IsSomeAnd}
use Rattle.nc_base.specs.declared.header.Header.{Header}
use Rattle.nc_base.specs.declared.step.Want.{Want}
use Rattle.nc_base.specs.declared.step.Want.TheVariants.{Answered, Meet, Solo}
use Rattle.serial_spec.specs.RankMachine as machine

pub record Ranked : Type 0 where
  pub header : Header
  pub state : machine.Rank

abbrev pub WaitsFor : machine.Rank → Want → Type 0
WaitsFor r (Answered a) = r.«open» ≡ None
WaitsFor r (Meet o) = IsSomeAnd r.«open» (λ p. p.gets ≡ o.batch.gets)
WaitsFor r (Solo o) = IsSomeAnd r.«open» (λ p. p.gets ≡ o.batch.gets)
