use Rattle.run_watch.proofs.Moves.{reads}
use Rattle.run_watch.proofs.view.View.read.Goals as goal

pub enter_as-requires : goal.enter_as-requires
enter_as-requires c = reads _ _
