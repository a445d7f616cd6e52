use Rattle.ncmpi_cli.proofs.Counting.{are_counted}
use Rattle.ncmpi_cli.proofs.script_run.run_beside.Goals as goal

pub returns-then-watchers-gt0-clause-counted : goal.returns-then-watchers-gt0-clause-counted
returns-then-watchers-gt0-clause-counted g c =
    are_counted c.args.script.now c.args.header.now (g.D.Disk.held c.args.disk.now) c.args.watchers c.watch_ranks.result c.watch_ranks.ensures.readings
    c.watch_ranks.ensures.told
