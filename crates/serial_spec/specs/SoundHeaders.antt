-- Headers that can be taken, and those that can be written: (own), but for the signs of the numbers of a header, which are
-- those of the netCDF classic format specification.
--     is_sound header          what the other crates ask of a header
--     is_writable header       what can be written: each number fits its field
--     is_redefinable header    what can be written with new begins
use Rattle.std.specs.Prelude.{ℕ, ◌*◌, ◌^◌, List, length, Bool, ◌&&◌, nat_lt, nat_le, ◌==◌, is_none}
use Rattle.std.specs.List.{list_all}
use Rattle.std.specs.Int.{Width, byte_len}
use Rattle.nc_base.specs.declared.header.Header.{Header}
use Rattle.nc_base.specs.declared.header.Dim.{Dim}
use Rattle.nc_base.specs.declared.header.Attr.{Attr}
use Rattle.nc_base.specs.declared.header.Var.{Var}
use Rattle.nc_base.specs.declared.header.NcType.{NcType}
use Rattle.serial_spec.specs.Limits.{most_dims, most_dims_of_var, most_vars, most_header_bytes, file_limit}
use Rattle.serial_spec.specs.ExternalForm.{size_of}
use Rattle.serial_spec.specs.Layout.{vsize}
use Rattle.serial_spec.specs.HeaderBytes.{count_width, begin_width, number_of, last_type, is_version, header_len}
use Rattle.serial_spec.specs.HeaderFaults.{first_check}

-- ---- sound headers

abbrev pub counts_are_small : Header → Bool
counts_are_small header =
    nat_le (length header.dims) most_dims && nat_le (length header.vars) most_vars
    && list_all (λ v. nat_le (length v.dims) most_dims_of_var) header.vars

abbrev pub is_sound : Header → Bool
is_sound header =
    is_version header.version && counts_are_small header && nat_le (header_len header) most_header_bytes && is_none (first_check header)

-- the number is not negative in its field
abbrev pub fits_field : Width → ℕ → Bool
fits_field w n = nat_lt (2 * n) (256 ^ byte_len w)

abbrev pub fits_count : ℕ → ℕ → Bool
fits_count version n = fits_field (count_width version) n

abbrev pub is_type : ℕ → NcType → Bool
is_type version kind = nat_le (number_of kind) (last_type version)

abbrev pub is_writable_dim : ℕ → Dim → Bool
is_writable_dim version d = fits_count version (length d.name) && fits_count version d.len && nat_le d.len file_limit

-- an attribute has the bytes of its count
abbrev pub is_writable_attr : ℕ → Attr → Bool
is_writable_attr version a =
    fits_count version (length a.name) && is_type version a.kind && fits_count version a.count
    && length a.bytes == a.count * size_of a.kind

abbrev pub is_writable_list : {A : Type 0} → ℕ → (A → Bool) → List A → Bool
is_writable_list version test xs = fits_count version (length xs) && list_all test xs

-- all that is asked of a variable to be written, but that its vsize may pass its field
abbrev pub is_redefinable_var : Header → Var → Bool
is_redefinable_var header v =
    fits_count header.version (length v.name) && is_writable_list header.version (λ id. fits_count header.version id) v.dims
    && is_writable_list header.version (is_writable_attr header.version) v.attrs
    && is_type header.version v.kind && fits_field (begin_width header.version) v.begin

abbrev pub is_writable_var : Header → Var → Bool
is_writable_var header v = is_redefinable_var header v && fits_count header.version (vsize header v)

-- by this test of its variables
abbrev pub is_writable_by : (Header → Var → Bool) → Header → Bool
is_writable_by test header =
    is_sound header && fits_count header.version header.records
    && is_writable_list header.version (is_writable_dim header.version) header.dims
    && is_writable_list header.version (is_writable_attr header.version) header.attrs
    && is_writable_list header.version (test header) header.vars

abbrev pub is_writable : Header → Bool
is_writable header = is_writable_by is_writable_var header

-- it can be written once its variables have other begins
abbrev pub is_redefinable : Header → Bool
is_redefinable header = is_writable_by is_redefinable_var header
