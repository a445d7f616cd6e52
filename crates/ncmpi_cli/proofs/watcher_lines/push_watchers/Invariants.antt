use Rattle.ncmpi_cli.proofs.Words.{◌≡◌, ◌++◌, map, take, watch_text, counted}
use Rattle.ncmpi_cli.proofs.watcher_lines.push_watchers.Given as goal

abbrev pub invariant-loop-watcher : goal.invariant-loop-watcher
invariant-loop-watcher l = l.out.items ≡ l.initial.out.items ++ watch_text (map (counted l.fn.opening l.fn.counts) (take l.watcher l.fn.readings))
