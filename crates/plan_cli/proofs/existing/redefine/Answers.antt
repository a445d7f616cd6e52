use Rattle.plan_cli.proofs.Words.{kept_extras, kept_whole_extras}
use Rattle.plan_cli.proofs.existing.redefine.Goals as goal

pub apply-requires-clause-lawful : goal.apply-requires-clause-lawful
apply-requires-clause-lawful c = kept_extras c.args.script.now c.requires.kept

pub apply-requires-clause-whole : goal.apply-requires-clause-whole
apply-requires-clause-whole c = kept_whole_extras c.args.script.now c.requires.kept
