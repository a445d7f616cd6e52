use Rattle.run_watch.proofs.Words.{None, drop, refl, ap, Shown}
use Rattle.run_watch.proofs.Moves.{begins, reads_at}
use Rattle.run_watch.proofs.Results.{none_shown}
use Rattle.run_watch.proofs.board.opened_writer.Goals as goal

pub new-requires-clause-rule : goal.new-requires-clause-rule
new-requires-clause-rule g c = begins (record { summary = record { steps = 0; records = c.args.records }; last = None }) c.args.records refl

pub publish_as-writer-requires : goal.publish_as-writer-requires
publish_as-writer-requires g c = λ next is.
    let w = c.in_ok-writer.writer in
    reads_at _ _ w.desk.shown.value next (ap (λ (x : Shown). x.summary) (none_shown w.desk.shown.value next (drop w.behind w.log.items) c.in_ok-writer.ensures.1 is))
