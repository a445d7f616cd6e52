use Rattle.ncmpi_cli.proofs.Words.{◌≡◌, ◌++◌, take, flat_map, reading_line, counted}
use Rattle.ncmpi_cli.proofs.watcher_lines.push_readings.Given as goal

abbrev pub invariant-loop-steps : goal.invariant-loop-steps
invariant-loop-steps l = l.out.items ≡ l.initial.out.items ++ flat_map reading_line (counted l.fn.opening l.fn.counts (take l.steps-index l.fn.numbers))
