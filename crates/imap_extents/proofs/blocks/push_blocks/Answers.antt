use Rattle.imap_extents.proofs.Cited.{arith, nat_tests}
use Rattle.imap_extents.proofs.BlockLaws.{blocks_more}
use Rattle.imap_extents.proofs.blocks.push_blocks.Goals as goal

pub loop-done-preserved : goal.loop-done-preserved
loop-done-preserved g c = grind (arith, nat_tests, blocks_more, c.min-here.ensures, c.loop-done-test.true, c.loop-done.invariant.so_far, c.in_ok-push_block.ensures)
