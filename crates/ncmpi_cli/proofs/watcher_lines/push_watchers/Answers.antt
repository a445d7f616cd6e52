use Rattle.ncmpi_cli.proofs.Words.{arith, counted, nat_tests}
use Rattle.ncmpi_cli.proofs.WatcherLaws.{watchers_more}
use Rattle.ncmpi_cli.proofs.watcher_lines.push_watchers.Goals as goal

pub loop-watcher-preserved : goal.loop-watcher-preserved
loop-watcher-preserved c =
    grind (arith, nat_tests, watchers_more (counted c.args.opening c.args.counts.now) c.args.out.now.items c.args.readings.now, c.loop-watcher-test.true)
