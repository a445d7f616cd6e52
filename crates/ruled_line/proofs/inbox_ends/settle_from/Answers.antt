use Rattle.ruled_line.proofs.Words.{rules, items_under}
use Rattle.ruled_line.proofs.InboxMoves.{meets, learns}
use Rattle.ruled_line.proofs.inbox_ends.settle_from.Goals as goal

pub absorb-requires-clause-rule : goal.absorb-requires-clause-rule
absorb-requires-clause-rule g c = meets _ _ _ _ (search rules) (search rules)

pub learn_as-requires-clause-rule : goal.learn_as-requires-clause-rule
learn_as-requires-clause-rule g c = learns _ _ (search rules) (search rules)

pub returns-clause-prefix : goal.returns-clause-prefix
returns-clause-prefix g c = (items_under c.args.put.number c.learn_as.ensures.rule.0, search rules)
