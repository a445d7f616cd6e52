-- The numbers of a header, as C reads them. (own)
use Rattle.std.specs.Prelude.{◌≡◌, ℕ, List, length}
use Rattle.nc_base.specs.declared.header.Header.{Header}
use Rattle.serial_spec.specs.HeaderBytes.{header_len}
use Rattle.nc_classic_c.specs.declared.header_check.NcvCounts.{NcvCounts}
use Rattle.nc_classic_c.specs.Headers.{IsHeaderOf}

-- those of a header of this length
abbrev pub counts_of : Header → ℕ → NcvCounts
counts_of header len =
    record { version = header.version; length = len; records = header.records; dims = length header.dims; attrs = length header.attrs; vars = length header.vars }

-- the bytes begin with a sound header that has them
abbrev pub AreCountsOf : List ℕ → NcvCounts → Type 0
AreCountsOf bytes counts = (header : Header) × IsHeaderOf bytes header × (counts ≡ counts_of header (header_len header))
