-- Where it stopped, and what came after.
use Rattle.file_owner.proofs.Words.{ℕ, ◌≤◌, sym, ◌∙◌, subst, dataset_setting, first_standing, arith, nat_tests}
use Rattle.file_owner.proofs.GainedLaws.{outcome}
use Rattle.file_owner.proofs.service.serve_to_end.Goals as goal

pub finish-requires-clause-few : goal.finish-requires-clause-few
finish-requires-clause-few g c κs within = subst (λ (n : ℕ). n ≤ 64) (sym c.open_owner-order.ensures.halted.taken.senders) c.requires.few

pub finish-requires-clause-lines : goal.finish-requires-clause-lines
finish-requires-clause-lines g c κs within =
    let a = c.open_owner-order.ensures.halted in
    a.stopped.long ∙ a.run.moved.lines.long ∙ c.requires.lines ∙ sym a.taken.senders

pub finish-requires-clause-ended : goal.finish-requires-clause-ended
finish-requires-clause-ended g c κs within = grind (arith, nat_tests, c.open_owner-order.ensures.halted.taken.senders, c.open_owner-order.ensures.halted.seen)

pub returns-clause-outcome : goal.returns-clause-outcome
returns-clause-outcome g c = (
  c.finish.new.senders.ended,
  outcome c.args.dataset.now.hints.now (dataset_setting c.args.dataset.now) c.args.inbox.now c.open_owner-order.new.inbox c.finish.new.inbox c.open_owner-order.new.senders.ended c.finish.new.senders.ended
      (first_standing g.D.Disk g.T.Told c.args.inbox.now.senders c.args.out.now)
      c.open_owner-order.new.out.records.now (g.D.Disk.held c.open_owner-order.new.out.disk.now) (g.D.Disk.calls c.open_owner-order.new.out.disk.now) c.open_owner-order.result.0 (g.T.Told.heard c.open_owner-order.new.out.told.now) c.open_owner-order.new.out.back.now c.finish.new.back c.open_owner-order.result.1 c.open_owner-order.ensures.halted c.finish.ensures,
)
