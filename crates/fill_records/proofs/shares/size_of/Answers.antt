-- No product of some of the counts is greater than that of all.
use Rattle.fill_records.proofs.Words.{arith, nat_tests}
use Rattle.fill_records.proofs.Products.{product_more, product_part}
use Rattle.fill_records.proofs.shares.size_of.Goals as goal

pub overflow_mul-size : goal.overflow_mul-size
overflow_mul-size c = grind (arith, nat_tests, product_more, product_part, c.loop-count.invariant)

pub loop-count-preserved : goal.loop-count-preserved
loop-count-preserved c = product_more c.args.counts.now c.loop-count.count-index c.loop-count.size c.loop-count-test.true c.loop-count.invariant
