-- How large a file is, and what a region needs, as C reads them. (own)
--     fits records header        a file with so many records can be
--     sizes_for records          the look for the sizes of such a file
--     needs_shown header v g     the bytes of a region, and the record count that a put of it needs
use Rattle.std.specs.Prelude.{ℕ, ◌*◌, Bool, nat_lt, ◌&&◌, if◌then◌else◌, Ok, Err}
use Rattle.nc_base.specs.declared.header.Header.{Header}
use Rattle.nc_base.specs.declared.header.Var.{Var}
use Rattle.nc_base.specs.declared.request.Region.{Region}
use Rattle.nc_base.specs.declared.answer.Code.TheVariants as code
use Rattle.serial_spec.specs.ExternalForm.{size_of}
use Rattle.serial_spec.specs.HeaderBytes.{header_len}
use Rattle.serial_spec.specs.Layout.{recsize, end_of, product}
use Rattle.serial_spec.specs.Limits.{record_limit, file_limit}
use Rattle.serial_spec.specs.Records.{records_of}
use Rattle.nc_classic_c.specs.declared.answers.Refusal.TheVariants as refusal
use Rattle.nc_classic_c.specs.declared.needs.NcvNeeds.{NcvNeeds}
use Rattle.nc_classic_c.specs.declared.sizes.NcvSizes.{NcvSizes}
use Rattle.nc_classic_c.specs.Looks.{Look}

abbrev pub file_end : Header → ℕ → ℕ
file_end header records = end_of header (header_len header) records

-- the record count and the file's end are below their limits
abbrev pub fits : ℕ → Header → Bool
fits records header = nat_lt records (record_limit header.version) && nat_lt (file_end header records) file_limit

abbrev pub sizes_for : ℕ → Look NcvSizes
sizes_for records header =
    if fits records header then Ok (record { record_size = recsize header; end = file_end header records })
    else Err (refusal.Asked code.ETooLarge)

abbrev pub needs_shown : Header → Var → Region → NcvNeeds
needs_shown header v g = record { bytes = product g.count * size_of v.kind; records = records_of header v g }
