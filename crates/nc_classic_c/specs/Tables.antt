-- The header that C defines by tables. (own)
--     header_of defined      the header, before its variables have places, without records
use Rattle.std.specs.Prelude.{◌/◌, map, length}
use Rattle.nc_base.specs.declared.header.Header.{Header}
use Rattle.nc_base.specs.declared.header.Dim.{Dim}
use Rattle.nc_base.specs.declared.header.Attr.{Attr}
use Rattle.nc_base.specs.declared.header.Var.{Var}
use Rattle.serial_spec.specs.ExternalForm.{size_of}
use Rattle.cdf_header.specs.Reading.{kind_of}
use Rattle.nc_classic_c.specs.declared.tables.NcvDimDef.{NcvDimDef}
use Rattle.nc_classic_c.specs.declared.tables.NcvAttDef.{NcvAttDef}
use Rattle.nc_classic_c.specs.declared.tables.NcvVarDef.{NcvVarDef}
use Rattle.nc_classic_c.specs.declared.tables.NcvHeaderDef.{NcvHeaderDef}

abbrev pub dimension_of : NcvDimDef → Dim
dimension_of d = record { name = d.name.now; len = d.length }

abbrev pub attribute_of : NcvAttDef → Attr
attribute_of a =
    record { name = a.name.now; kind = kind_of a.kind; count = length a.values.now / size_of (kind_of a.kind); bytes = a.values.now }

abbrev pub variable_of : NcvVarDef → Var
variable_of v =
    record { name = v.name.now; dims = v.ids.now; attrs = map attribute_of v.attrs.now; kind = kind_of v.kind; begin = 0 }

abbrev pub header_of : NcvHeaderDef → Header
header_of defined =
    record {
      version = defined.version;
      records = 0;
      dims = map dimension_of defined.dims.now;
      attrs = map attribute_of defined.attrs.now;
      vars = map variable_of defined.vars.now;
    }
