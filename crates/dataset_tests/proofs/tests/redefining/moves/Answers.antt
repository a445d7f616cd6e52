-- The second header is the first one with the extras.
use Rattle.dataset_tests.proofs.tests.redefining.moves.Goals as goal

pub relocate-requires-clause-applied : goal.relocate-requires-clause-applied
relocate-requires-clause-applied c κs = (c.args.extras.now, c.requires.applied)
