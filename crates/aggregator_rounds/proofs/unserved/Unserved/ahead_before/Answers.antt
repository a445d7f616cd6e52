-- Those in front that begin before the place.
use Rattle.aggregator_rounds.proofs.Words.{List, subst, sym, Owned, BeginBefore}
use Rattle.aggregator_rounds.proofs.SplitSteps.{taken_before}
use Rattle.aggregator_rounds.proofs.unserved.Unserved.ahead_before.Goals as goal

pub returns : goal.returns
returns c =
    subst (λ (l : List Owned). BeginBefore c.args.stop c.args.self.now.ahead.now l) (sym c.head.ensures)
    (taken_before c.begins_before.result c.args.stop c.args.self.now.ahead.now c.requires.sorted c.begins_before.ensures.before c.begins_before.ensures.after)
