-- The ranks up to the last one of one owner more.
use Rattle.window_plan.proofs.Words.{rules, Owner, arith, nat_tests}
use Rattle.window_plan.proofs.ShareLaws.{ranks_more}
use Rattle.window_plan.proofs.shares.ranks_in.Goals as goal

abbrev none : Owner
none = record { rank = 0; extent = record { at = 0; len = 0 } }

pub loop-owner-preserved : goal.loop-owner-preserved
loop-owner-preserved c = record {
  count = grind (arith, nat_tests, ranks_more c.args.owners.now c.loop-owner.owner-index none c.loop-owner.ranks c.max-ranks.result, c.loop-owner-test.true, c.loop-owner.invariant.count, c.max-ranks.ensures, c.from.ensures);
  few = search rules;
}
