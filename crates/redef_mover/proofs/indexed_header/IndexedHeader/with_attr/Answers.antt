use Rattle.redef_mover.proofs.Words.{arith, nat_tests}
use Rattle.redef_mover.proofs.IndexLaws.{attr_indexed}
use Rattle.redef_mover.proofs.indexed_header.IndexedHeader.with_attr.Goals as goal

pub invariant_of-result : goal.invariant_of-result
invariant_of-result c = grind (arith, nat_tests, attr_indexed, c.in_ok-push_attr.ensures.listed, c.self.invariant, c.in_ok-push_attr.ensures.named)
