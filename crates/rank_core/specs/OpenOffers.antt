-- An offer whose reply is waited for, as the rank keeps it. (own)
--     as_open o                      the same as the word of serial_spec
--     batch_towards direction posts  the posts as puts, or as gets
use Rattle.std.specs.Prelude.{List, []}
use Rattle.nc_base.specs.declared.plan.Batch.{Batch}
use Rattle.nc_base.specs.declared.plan.Post.{Post}
use Rattle.nc_base.specs.declared.request.Direction.{Direction}
use Rattle.nc_base.specs.declared.request.Direction.TheVariants.{Put, Get}
use Rattle.serial_spec.specs.RankMachine.{Open}
use Rattle.rank_core.specs.declared.open_offer.OpenOffer.{OpenOffer}

abbrev pub as_open : OpenOffer → Open
as_open o = record { code = o.code; items = o.items; gets = o.gets; blocking = o.blocking; independent = o.independent }

abbrev pub batch_towards : Direction → List Post → Batch
batch_towards Put posts = record { puts = posts; gets = [] }
batch_towards Get posts = record { puts = []; gets = posts }
