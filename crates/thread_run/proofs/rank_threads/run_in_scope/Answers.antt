-- The run is that of the threads, or that in turn.
use Rattle.thread_run.proofs.rank_threads.run_in_scope.Goals.{in-Some, in-None}
use Rattle.thread_run.proofs.rank_threads.run_in_scope.Goals as goal

pub returns-clause-run : goal.returns-clause-run
returns-clause-run g c =
    elim c.match-start_ranks.branch [
      | in-Some w ↦ rw (w.disk-is, w.records-is, w.end-is) w.run_started-end.ensures.run
      | in-None w ↦ rw (w.disk-is, w.records-is, w.end-is) w.run_in_turn_told-end.ensures.run
    ]
