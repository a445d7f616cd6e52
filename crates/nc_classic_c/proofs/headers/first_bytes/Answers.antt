-- The first 2^20 bytes.
use Rattle.nc_classic_c.proofs.Words.{sym, arith, ◌^◌, take_all, length-take, length-take-le}
use Rattle.nc_classic_c.proofs.headers.first_bytes.Goals as goal

pub returns-then-bytes-clause-bytes : goal.returns-then-bytes-clause-bytes
returns-then-bytes-clause-bytes c = sym (take_all (2 ^ 20) c.args.bytes.now c.if-bytes.true)

pub slice_bounds-result-end : goal.slice_bounds-result-end
slice_bounds-result-end c = sym (length-take-le 1048576 c.args.bytes.now (omega (arith, c.if-bytes.false)))

pub returns-clause-few : goal.returns-clause-few
returns-clause-few c = omega (arith, length-take 1048576 c.args.bytes.now)
