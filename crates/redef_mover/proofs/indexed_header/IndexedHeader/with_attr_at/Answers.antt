use Rattle.redef_mover.proofs.Words.{arith, nat_tests}
use Rattle.redef_mover.proofs.IndexLaws.{var_attr_indexed}
use Rattle.redef_mover.proofs.indexed_header.IndexedHeader.with_attr_at.Goals as goal

pub invariant_of-result : goal.invariant_of-result
invariant_of-result c =
    grind (arith, nat_tests, var_attr_indexed, c.requires, c.in_ok-push_attr_at.ensures.grown, c.self.invariant, c.in_ok-push_attr_at.ensures.named)
