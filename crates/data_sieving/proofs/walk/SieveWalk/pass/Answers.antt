-- What is left behind the place is left of what was left before.
use Rattle.data_sieving.proofs.Words.{entries_left, arith, nat_tests}
use Rattle.data_sieving.proofs.NextSteps.{past_left, across_further}
use Rattle.data_sieving.proofs.walk.SieveWalk.pass.Goals as goal

pub returns-clause-left : goal.returns-clause-left
returns-clause-left c =
    past_left (entries_left c.args.self.now.entries) (entries_left c.pass.new.self) c.args.self.now.from c.args.stop c.args.self.now.size c.requires.left c.pass.ensures.past c.pass.ensures.first

pub returns-clause-across : goal.returns-clause-across
returns-clause-across c = grind (arith, nat_tests, across_further, c.requires.further, c.requires.across, c.pass.ensures.carried)
