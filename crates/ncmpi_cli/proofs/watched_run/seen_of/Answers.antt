use Rattle.ncmpi_cli.proofs.Words.{arith, nat_tests}
use Rattle.ncmpi_cli.proofs.WatchedTables.{readings_push}
use Rattle.ncmpi_cli.proofs.watched_run.seen_of.Goals as goal

pub loop-one-preserved : goal.loop-one-preserved
loop-one-preserved g c = grind (arith, nat_tests, readings_push, c.in_ok-numbers_of.ensures, c.note.ensures.same, c.loop-one.invariant.0)
