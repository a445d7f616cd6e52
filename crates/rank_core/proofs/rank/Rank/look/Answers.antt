use Rattle.rank_core.proofs.Words.{option_copied, arith, nat_tests}
use Rattle.nc_base.specs.declared.answer.Code.TheVariants as code
use Rattle.rank_core.specs.Targets.{look_at}
use Rattle.rank_core.proofs.LookLaws.{look_is}
use Rattle.rank_core.proofs.OutcomeLaws.{settled_is}
use Rattle.rank_core.proofs.TargetLaws.{look_found, look_missing}
use Rattle.rank_core.proofs.rank.Rank.look.Goals as goal

pub returns-in-None : goal.returns-in-None
returns-in-None c = grind (arith, nat_tests, look_missing, look_is, c.in-None.ensures.found, c.in-None.ensures.sound)

pub returns-in-Some : goal.returns-in-Some
returns-in-Some c =
    let rank = c.args.self.now in
    grind (arith, nat_tests, look_found rank c.args.id c.args.name.now c.args.given.now (option_copied c.args.values) c.in-Some.target, settled_is c.look_at.result (look_at c.in-Some.target c.args.given.now (option_copied c.args.values)), look_is rank.header rank.state.known c.args.id c.args.given.now (option_copied c.args.values) c.args.name.now, c.in-Some.ensures.found, c.in-Some.ensures.target, c.look_at.ensures, c.settle.ensures, c.in-Some.ensures.sound)
