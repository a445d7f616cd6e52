-- The begins of a created file, one variable after another in the order of placing.
--     fixed_end, first_record       where the fixed variables before variable k end, and where the records begin
--     far_fixed, far_record         the first fixed variable, and the first record variable, that lies too far
--     HasPlace                      each variable has a place
use Rattle.std.specs.Prelude.{◌≡◌, ℕ, ◌+◌, ◌^◌, ◌≤◌, take, find, Bool, not, ◌&&◌, nat_lt, Option, None}
use Rattle.std.specs.List.{enumerate_from}
use Rattle.nc_base.specs.declared.header.Header.{Header}
use Rattle.nc_base.specs.declared.header.Var.{Var}
use Rattle.nc_base.specs.declared.script.Align.{Align}
use Rattle.serial_spec.specs.Limits.{file_limit}
use Rattle.serial_spec.specs.Layout.{round_up, vsize, fixed_variables, end_of_fixed, begins}
use Rattle.serial_spec.specs.HeaderBytes.{header_len}
use Rattle.serial_spec.specs.Redefinition.{Numbered, fixed_of, records_in, is_far_begin}

abbrev pub fixed_end : Header → Align → ℕ → ℕ → ℕ
fixed_end header align first k = end_of_fixed header align.var (round_up align.header first) (fixed_variables header (take k header.vars))

abbrev pub first_record : Header → Align → ℕ → ℕ
first_record header align first = round_up align.var (end_of_fixed header align.var (round_up align.header first) (fixed_variables header header.vars))

-- its begin passes what the version can store, or its end a file's
abbrev pub lies_too_far : Header → Var → Bool
lies_too_far header v = not (not (is_far_begin header v) && nat_lt (v.begin + vsize header v) file_limit)

abbrev pub far_fixed : Header → Option Numbered
far_fixed header = find (λ v. lies_too_far header v.1) (fixed_of header (enumerate_from 0 header.vars))

abbrev pub far_record : Header → Option Numbered
far_record header = find (λ v. lies_too_far header v.1) (records_in header (enumerate_from 0 header.vars))

-- The header is small enough, `len` bytes, each variable has a place, and the records begin at `first`.
pub record HasPlace (header : Header) (align : Align) (len first : ℕ) : Type 0 where
  pub length : len ≡ header_len header
  pub small : len ≤ 2 ^ 20
  pub records : first ≡ first_record header align len
  pub fixed_fit : far_fixed (begins header align len) ≡ None
  pub records_fit : far_record (begins header align len) ≡ None
