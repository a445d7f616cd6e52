use Rattle.redef_mover.proofs.Words.{arith, nat_tests}
use Rattle.redef_mover.proofs.IndexLaws.{var_indexed}
use Rattle.redef_mover.proofs.indexed_header.IndexedHeader.with_var.Goals as goal

pub invariant_of-result : goal.invariant_of-result
invariant_of-result c =
    grind (arith, nat_tests, var_indexed, c.in_ok-push_var.ensures.listed, c.requires.named, c.requires.bare, c.self.invariant, c.in_ok-push_var.ensures.placed)
