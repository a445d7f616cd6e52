-- Replies to an offer. (own)
--     fits_gets header gets reply     a blob of the right length for each get, and a record count within its limit
use Rattle.std.specs.Prelude.{List, map, length, Bool, ◌&&◌, nat_lt, bytes_eq}
use Rattle.nc_base.specs.declared.header.Header.{Header}
use Rattle.nc_base.specs.declared.plan.Post.{Post}
use Rattle.nc_base.specs.declared.step.Reply.{Reply}
use Rattle.serial_spec.specs.Limits.{record_limit}
use Rattle.serial_spec.specs.RankSide.{wanted}

abbrev pub fits_gets : Header → List Post → Reply → Bool
fits_gets header gets reply =
    bytes_eq (map (λ blob. length blob) reply.got) (map (wanted header) gets) && nat_lt reply.records (record_limit header.version)
