-- One put more.
use Rattle.reference.proofs.Words.{ℕ, Post, needed, read_in, arith, nat_tests}
use Rattle.reference.proofs.GatherLaws.{greatest_end, greatest_step}
use Rattle.reference.proofs.PutSteps.{needed_is}
use Rattle.reference.proofs.puts.needed_by.Goals as goal

pub records_needed-requires : goal.records_needed-requires
records_needed-requires c = grind (arith, nat_tests, read_in, c.requires.accepted)

pub loop-put-preserved : goal.loop-put-preserved
loop-put-preserved c =
    let accepted = c.requires.accepted c.put-item.result (read_in c.args.puts.now c.loop-put.put-index c.put-item.result c.loop-put-test.true c.put-item.is) in
    greatest_step (λ (p : ℕ × Post). needed c.args.header.now p.1) c.args.puts.now c.loop-put.put-index c.put-item.result c.loop-put.needed c.records_needed.result c.max-needed.result _
    c.loop-put-test.true c.put-item.is (needed_is c.args.header.now c.put-item.result c.records_needed.result accepted c.records_needed.ensures) c.max-needed.ensures c.loop-put.invariant

pub returns : goal.returns
returns c = greatest_end (λ (p : ℕ × Post). needed c.args.header.now p.1) c.args.puts.now c.loop-put.put-index c.loop-put.needed _ c.loop-put-test.false c.loop-put.invariant
