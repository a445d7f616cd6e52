use Rattle.plan_cli.proofs.Words.{kept_hints, and_second, within_is}
use Rattle.plan_cli.proofs.plan.print_run.Goals as goal

pub sum_up-requires : goal.sum_up-requires
sum_up-requires g c = (within_is 1 33554432 c.args.script.now.hints.striping_unit (and_second _ _ (kept_hints c.args.script.now c.requires.kept))).0
