-- What the variables of a header come to, measured once for all files of that header.
--     record_end header       where the record variables end in a file of one record; 0 without a record variable
--     AreMeasures header m    m has what they come to, each 2^62 where it is more
use Rattle.std.specs.Prelude.{◌≡◌, ℕ, ◌+◌, map, if◌then◌else◌}
use Rattle.nc_base.specs.declared.header.Header.{Header}
use Rattle.nc_base.specs.declared.header.Var.{Var}
use Rattle.serial_spec.specs.HeaderBytes.{header_len}
use Rattle.serial_spec.specs.Layout.{greatest, is_record, last_share, recsize, end_of}
use Rattle.var_layout.specs.Capped.{capped}
use Rattle.var_layout.specs.declared.measures.Measures.{Measures}

-- where a record variable ends in the first record
abbrev pub first_end : Header → Var → ℕ
first_end header v = if is_record header v then v.begin + last_share header v else 0

abbrev pub record_end : Header → ℕ
record_end header = greatest (map (λ v. first_end header v) header.vars)

-- Crates above pass it on, and look into it no more.
unfoldable pub AreMeasures : Header → Measures → Type 0
AreMeasures header m =
    (m.record_size ≡ capped (recsize header))
    × (m.fixed_end ≡ capped (end_of header (header_len header) 0))
    × (m.record_end ≡ capped (record_end header))
