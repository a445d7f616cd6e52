-- How much a call of the disk transfers. (own)
--     transferred call           how many bytes the call reads or writes; a growth transfers none
--     is_count_store header call it stores the record count in its field
--     longest hints              the longest of the three buffers
use Rattle.std.specs.Prelude.{ℕ, max, Bool, false, ◌&&◌, ◌==◌}
use Rattle.std.specs.Int.{byte_len}
use Rattle.nc_base.specs.declared.header.Header.{Header}
use Rattle.nc_base.specs.declared.script.Hints.{Hints}
use Rattle.nc_base.specs.declared.step.DiskCall.{DiskCall}
use Rattle.nc_base.specs.declared.step.DiskCall.TheVariants.{Grow, Load, Store}
use Rattle.serial_spec.specs.HeaderBytes.{count_width}

abbrev pub transferred : DiskCall → ℕ
transferred (Grow end) = 0
transferred (Load x n) = n
transferred (Store x n) = n

abbrev pub is_count_store : Header → DiskCall → Bool
is_count_store header (Store x n) = x == 4 && n == byte_len (count_width header.version)
is_count_store header _ = false

abbrev pub longest : Hints → ℕ
longest hints = max hints.cb_buffer (max hints.wr_buffer hints.rd_buffer)
