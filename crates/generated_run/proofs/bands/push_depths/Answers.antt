use Rattle.generated_run.proofs.Words.{arith, ints, numbers_of_runs}
use Rattle.generated_run.proofs.TurnLaws.{depths_pushed, no_depths}
use Rattle.generated_run.proofs.bands.push_depths.Goals as goal

pub returns-then-count-eq0 : goal.returns-then-count-eq0
returns-then-count-eq0 c = no_depths (numbers_of_runs c.args.out.now.items) c.args.first c.args.count (omega arith)

pub returns : goal.returns
returns c = depths_pushed c.args.out.now.items c.push.new.self.items _ c.args.first c.args.count (omega (arith, ints)) c.in_ok-push.ensures.items
