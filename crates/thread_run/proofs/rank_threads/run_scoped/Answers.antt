-- What the scope's closure asks.
use Rattle.thread_run.proofs.Words.{of_calls}
use Rattle.thread_run.proofs.rank_threads.run_scoped.Goals as goal

pub scoped-back-requires : goal.scoped-back-requires
scoped-back-requires g c = record {
  at = λ a. (
    (c.requires.names, c.requires.records, c.requires.from, c.requires.long),
    search of_calls,
  );
}
