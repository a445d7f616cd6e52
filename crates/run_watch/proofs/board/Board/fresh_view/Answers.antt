use Rattle.run_watch.proofs.Moves.{forks, merges}
use Rattle.run_watch.proofs.board.Board.fresh_view.Goals as goal

pub tell-requires : goal.tell-requires
tell-requires g c = forks _ _

pub learn-requires-clause-rule : goal.learn-requires-clause-rule
learn-requires-clause-rule g c = merges _ _ _ _
