-- The parts of a header, as C reads them. (own)
use Rattle.std.specs.Prelude.{length}
use Rattle.nc_base.specs.declared.header.Header.{Header}
use Rattle.nc_base.specs.declared.header.Dim.{Dim}
use Rattle.nc_base.specs.declared.header.Attr.{Attr}
use Rattle.nc_base.specs.declared.header.Var.{Var}
use Rattle.serial_spec.specs.HeaderBytes.{number_of}
use Rattle.serial_spec.specs.Layout.{is_record, slab, vsize}
use Rattle.nc_classic_c.specs.declared.dimensions.NcvDim.{NcvDim}
use Rattle.nc_classic_c.specs.declared.attributes.NcvAtt.{NcvAtt}
use Rattle.nc_classic_c.specs.declared.variables.NcvVar.{NcvVar}

abbrev pub dim_shown : Dim → NcvDim
dim_shown d = record { length = d.len; name_len = length d.name }

abbrev pub att_shown : Attr → NcvAtt
att_shown a = record { count = a.count; values_len = length a.bytes; name_len = length a.name; kind = number_of a.kind }

abbrev pub var_shown : Header → Var → NcvVar
var_shown header v =
    record { begin = v.begin; slab = slab header v; vsize = vsize header v; dims = length v.dims; attrs = length v.attrs; name_len = length v.name; kind = number_of v.kind; is_record = is_record header v }
