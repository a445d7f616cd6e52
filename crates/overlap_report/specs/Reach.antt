-- How far entries reach, one after another.
use Rattle.std.specs.Prelude.{◌+◌, max, Bool, if◌then◌else◌}
use Rattle.nc_base.specs.declared.plan.Owned.{Owned}
use Rattle.serial_spec.specs.SharedByte.{same_key}
use Rattle.overlap_report.specs.declared.shared.Reach.{Reach}
use Rattle.overlap_report.specs.SharedBytes.{key_of}

-- the entry is of the request that reaches farthest
abbrev pub same_as : Reach → Owned → Bool
same_as r o = same_key (key_of o) (r.rank, r.request)

abbrev pub with_entry : Reach → Owned → Reach
with_entry r o =
    if same_as r o then record r { end = max r.end (o.extent.at + o.extent.len) }
    else record { end = o.extent.at + o.extent.len; rank = o.rank; request = o.request; other = r.end }
