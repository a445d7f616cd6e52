-- Headers whose variables have no places yet.
--     is_unplaced header          what a header keeps before its variables get places
--     has_writable_parts header   its names, lengths, types and attributes fit their fields
use Rattle.std.specs.Prelude.{length, Bool, not, ◌&&◌, ◌==◌}
use Rattle.std.specs.List.{list_any, list_all}
use Rattle.nc_base.specs.declared.header.Header.{Header}
use Rattle.nc_base.specs.declared.header.Var.{Var}
use Rattle.serial_spec.specs.HeaderBytes.{is_version}
use Rattle.serial_spec.specs.HeaderFaults.{two_record_dims, record_later, bad_id}
use Rattle.serial_spec.specs.SoundHeaders.{counts_are_small, fits_count, is_type, is_writable_list, is_writable_dim, is_writable_attr}

-- a version, counts within the limits, ids in range, one record dimension at most and that only first, and no record
abbrev pub is_unplaced : Header → Bool
is_unplaced header =
    is_version header.version && counts_are_small header
    && not (two_record_dims header) && not (list_any (record_later header) header.vars)
    && not (list_any (bad_id header) header.vars) && header.records == 0

abbrev pub has_writable_names : Header → Var → Bool
has_writable_names header v =
    fits_count header.version (length v.name) && is_writable_list header.version (is_writable_attr header.version) v.attrs
    && is_type header.version v.kind

abbrev pub has_writable_parts : Header → Bool
has_writable_parts header =
    is_writable_list header.version (is_writable_dim header.version) header.dims
    && is_writable_list header.version (is_writable_attr header.version) header.attrs
    && list_all (has_writable_names header) header.vars
