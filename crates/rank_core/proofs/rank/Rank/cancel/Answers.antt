use Rattle.rank_core.proofs.Words.{arith, is_chosen, named, nat_tests}
use Rattle.nc_base.specs.declared.answer.Code.TheVariants as code
use Rattle.rank_core.proofs.RequestLaws.{held_without}
use Rattle.rank_core.proofs.rank.Rank.cancel.Goals as goal

pub returns-clause-step : goal.returns-clause-step
returns-clause-step c =
    grind (
      arith,
      nat_tests,
      held_without (is_chosen (named c.args.self.now.state c.args.choice.now)) c.args.self.now.state.posted,
      named c.args.self.now.state c.args.choice.now,
      c.in_ok-items.ensures.after,
    )
