use Rattle.nc_base.proofs.Words.{rules, arith, ints, to_z-of_z, fits_signed_mul, unsigned_abs-mul, mul-le-mul, nat_tests}
use Rattle.std.proofs.Common.{◌^◌}
use mir.Syntax.{w128}
use mir.Val.{to_z, of_z}
use Rattle.nc_base.proofs.numbers.NumberRun.at.Goals as goal

pub overflow_mul-result : goal.overflow_mul-result
overflow_mul-result c =
    fits_signed_mul w128 (to_z w128 (of_z w128 c.from-2.result)) (to_z w128 (of_z w128 c.from-3.result)) (2 ^ 63) (2 ^ 32)
    (omega (arith, ints, c.from-2.ensures, c.from-2.type_inv))
    (omega (arith, ints, c.from-3.ensures, c.from-3.type_inv, c.ranges.k.fits))
    (omega arith)

pub overflow_add-result : goal.overflow_add-result
overflow_add-result c =
    grind (arith, nat_tests, ints, unsigned_abs-mul, mul-le-mul, c.from-2.ensures, c.from-2.type_inv, c.from-3.ensures, c.from-3.type_inv, c.from.ensures, c.from.type_inv)

pub returns : goal.returns
returns c = grind (arith, nat_tests, rules, ints, overflow_add-result, to_z-of_z, overflow_mul-result, c.from.ensures, c.from-2.ensures, c.from-3.ensures)
