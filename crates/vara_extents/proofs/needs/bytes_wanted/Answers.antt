use Rattle.vara_extents.proofs.Words.{arith, size_most, nat_tests}
use Rattle.vara_extents.proofs.PlaceLaws.{small_of}
use Rattle.vara_extents.proofs.needs.bytes_wanted.Goals as goal

pub overflow_mul-result : goal.overflow_mul-result
overflow_mul-result c = grind (arith, nat_tests, small_of, size_most, c.in-Some.ensures, c.requires, c.as_slice.ensures, c.element_count.ensures, c.size_of.ensures)

pub returns-in-Some : goal.returns-in-Some
returns-in-Some c = grind (arith, nat_tests, small_of, c.in-Some.ensures, c.requires, c.as_slice.ensures, c.element_count.ensures, c.size_of.ensures)
