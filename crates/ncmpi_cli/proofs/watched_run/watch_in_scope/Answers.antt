use Rattle.ncmpi_cli.proofs.Words.{crosses, view_send}
use denote.Param.Send.{sendable}
use Rattle.ncmpi_cli.proofs.watched_run.watch_in_scope.Goals as goal

pub spawn-child-requires-send-F : goal.spawn-child-requires-send-F
spawn-child-requires-send-F g c κs within = search (sendable, crosses, view_send) depth 20

pub spawn-child-requires-send-T : goal.spawn-child-requires-send-T
spawn-child-requires-send-T g c κs within = search (sendable, crosses, view_send) depth 20
