-- Regions as C gives them. (own)
--     region_of asked       the region; no index map says that the memory is packed
--     direction_of put      whether it is to be written
use Rattle.std.specs.Prelude.{length, Bool, true, false, ◌==◌}
use Rattle.nc_base.specs.declared.request.Region.{Region}
use Rattle.nc_base.specs.declared.request.Direction.{Direction}
use Rattle.nc_base.specs.declared.request.Direction.TheVariants.{Put, Get}
use Rattle.nc_classic_c.specs.declared.regions.NcvRegion.{NcvRegion}

abbrev pub region_of : NcvRegion → Region
region_of asked =
    record { start = asked.start.now; count = asked.count.now; stride = asked.stride.now; imap = asked.imap.now; packed = length asked.imap.now == 0 }

abbrev pub direction_of : Bool → Direction
direction_of true = Put
direction_of false = Get
