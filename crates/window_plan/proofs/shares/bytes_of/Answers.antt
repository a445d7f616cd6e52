-- The bytes of one owner more.
use Rattle.window_plan.proofs.Words.{Owner, arith, nat_tests}
use Rattle.window_plan.proofs.ShareLaws.{share_more}
use Rattle.window_plan.proofs.shares.bytes_of.Goals as goal

abbrev none : Owner
none = record { rank = 0; extent = record { at = 0; len = 0 } }

pub loop-owner-preserved : goal.loop-owner-preserved
loop-owner-preserved c = grind (arith, nat_tests, share_more, c.loop-owner-test.true, c.loop-owner.invariant, c.own_bytes.ensures, c.saturating_add-bytes.ensures)
