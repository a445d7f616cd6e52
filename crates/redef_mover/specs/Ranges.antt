-- Begins that are out of range. (own)
--     is_bad header before v           its begin is out of range, where the variables before it add so much to a record
--     is_bad_var header k v            the begin of variable k is out of range
use Rattle.std.specs.Prelude.{ℕ, take, sum_by, Bool, not, ◌&&◌}
use Rattle.nc_base.specs.declared.header.Header.{Header}
use Rattle.nc_base.specs.declared.header.Var.{Var}
use Rattle.serial_spec.specs.HeaderFaults.{keeps_bound}
use Rattle.serial_spec.specs.Layout.{record_share}
use Rattle.serial_spec.specs.Redefinition.{is_far_begin}

abbrev pub is_bad : Header → ℕ → Var → Bool
is_bad header before v = not (not (is_far_begin header v) && keeps_bound header before v)

abbrev pub is_bad_var : Header → ℕ → Var → Bool
is_bad_var header k v = is_bad header (sum_by (λ w. record_share header w) (take k header.vars)) v
