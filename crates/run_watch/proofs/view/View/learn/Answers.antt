use Rattle.run_watch.proofs.Words.{rules}
use Rattle.run_watch.proofs.Beginnings.{learned}
use Rattle.run_watch.proofs.view.View.learn.Goals as goal

pub returns-then-self-fresh-clause-begins : goal.returns-then-self-fresh-clause-begins
returns-then-self-fresh-clause-begins c = learned c.args.self.now c.args.note _ (search rules)

pub returns-else-self-fresh-clause-begins : goal.returns-else-self-fresh-clause-begins
returns-else-self-fresh-clause-begins c = learned c.args.self.now c.args.note _ (search rules)
