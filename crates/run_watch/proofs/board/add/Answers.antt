use Rattle.run_watch.proofs.Words.{rules, arith, nat_tests}
use Rattle.run_watch.proofs.Results.{pushed}
use Rattle.run_watch.proofs.board.add.Goals as goal

pub returns-in-Ok-clause-shows : goal.returns-in-Ok-clause-shows
returns-in-Ok-clause-shows g c = grind (arith, nat_tests, pushed, rules)
