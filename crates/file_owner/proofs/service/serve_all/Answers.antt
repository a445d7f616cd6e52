-- One more arrival is done, or it is the last one.
use Rattle.file_owner.proofs.Words.{ℕ, ◌++◌, ◌∷◌, [], refl, ◌∙◌, subst, arith, dataset_setting, standing, Grows, held_stops, stops_for, AllHaveEnded, nat_tests}
use Rattle.file_owner.proofs.LentLaws.{same_then}
use Rattle.file_owner.proofs.RefusedSteps.{fault_at}
use Rattle.file_owner.proofs.HaltLaws.{fault_cause, halt_ended, halt_fault, halt_strange, no_cause, served_more}
use Rattle.file_owner.proofs.RunLaws.{run_none}
use Rattle.file_owner.proofs.StopLaws.{more_none}
use Rattle.file_owner.specs.declared.service.Halt.TheVariants as halt
use Rattle.file_owner.proofs.service.serve_all.Goals as goal

pub loop-init : goal.loop-init
loop-init g c = record {
  same = record { disk = refl; records = refl; told = refl; back = refl };
  served = record { more = []; taken = more_none c.args.inbox.now; ended = c.requires.ended; run = run_none c.args.dataset.now.hints.now (dataset_setting c.args.dataset.now) (standing g.D.Disk g.T.Told c.args.owner.now c.args.out.now) };
  steady = c.requires.steady;
  lines = refl;
  senders = refl;
  from = c.requires.from;
  longer = omega arith;
  later = omega arith;
}

pub returns-then-all_ended-clause-halted : goal.returns-then-all_ended-clause-halted
returns-then-all_ended-clause-halted g c =
    halt_ended c.args.dataset.now.hints.now (dataset_setting c.args.dataset.now) c.args.inbox.now c.loop.inbox c.loop.senders.ended
    (standing g.D.Disk g.T.Told c.args.owner.now c.args.out.now)
    (standing g.D.Disk g.T.Told c.loop.owner c.loop.out) c.stop_held.new.back c.loop.invariant.served
    (subst (λ clients. Grows c.loop.out.back.now (held_stops clients) c.stop_held.new.back) c.deref.ensures.value c.stop_held.ensures)
    (subst (λ (k : ℕ). AllHaveEnded k c.loop.senders.ended) (c.len.ensures ∙ c.loop.invariant.lines ∙ c.requires.lines) (c.all_ended.ensures c.if-all_ended.true))

pub returns-then-all_ended-clause-cause : goal.returns-then-all_ended-clause-cause
returns-then-all_ended-clause-cause g c = no_cause (g.D.Disk.faults c.args.out.now.disk.now) (g.D.Disk.faults c.loop.out.disk.now) halt.Ended refl c.loop.invariant.later

pub returns-then-is_strange-clause-halted : goal.returns-then-is_strange-clause-halted
returns-then-is_strange-clause-halted g c =
    halt_strange c.args.dataset.now.hints.now (dataset_setting c.args.dataset.now) c.args.inbox.now c.loop.inbox c.take-number.new.inbox c.loop.senders.ended c.take-number.new.self.ended
    (standing g.D.Disk g.T.Told c.args.owner.now c.args.out.now)
    (standing g.D.Disk g.T.Told c.loop.owner c.loop.out) c.take-number.result.0 c.take-number.result.1 c.stop_strange.new.back c.loop.invariant.served
    (record { items = c.take-number.ensures.items; senders = c.take-number.ensures.senders; of = c.take-number.ensures.of; low = c.take-number.ensures.number; noted = c.take-number.ensures.noted })
    (λ file. c.is_strange.ensures (dataset_setting c.args.dataset.now) file c.loop.out.records.now refl ∙ c.if-is_strange.true)
    (subst (λ clients. Grows c.loop.out.back.now (λ q. held_stops clients q ++ stops_for (c.take-number.result ∷ []) q) c.stop_strange.new.back) c.deref-then-is_strange.ensures.value c.stop_strange.ensures)

pub returns-then-is_strange-clause-cause : goal.returns-then-is_strange-clause-cause
returns-then-is_strange-clause-cause g c = no_cause (g.D.Disk.faults c.args.out.now.disk.now) (g.D.Disk.faults c.loop.out.disk.now) (halt.Stranger c.take-number.result.0) refl c.loop.invariant.later

pub returns-in-Err-clause-halted : goal.returns-in-Err-clause-halted
returns-in-Err-clause-halted g c =
    halt_fault c.args.dataset.now.hints.now (dataset_setting c.args.dataset.now) c.args.inbox.now c.loop.inbox c.take-number.new.inbox c.loop.senders.ended c.take-number.new.self.ended
    (standing g.D.Disk g.T.Told c.args.owner.now c.args.out.now)
    (standing g.D.Disk g.T.Told c.loop.owner c.loop.out) c.take-number.result c.in-Err.fault c.arrive-done.new.out.records.now (g.D.Disk.held c.arrive-done.new.out.disk.now) (g.D.Disk.calls c.arrive-done.new.out.disk.now) c.arrive-done.new.self.order (g.T.Told.heard c.arrive-done.new.out.told.now) c.arrive-done.new.out.back.now
    c.loop.invariant.served
    (record { items = c.take-number.ensures.items; senders = c.take-number.ensures.senders; of = c.take-number.ensures.of; low = c.take-number.ensures.number; noted = c.take-number.ensures.noted })
    c.in-Err.ensures.order c.in-Err.ensures.untold c.in-Err.ensures.stopped
    (fault_at (dataset_setting c.args.dataset.now) c.in-Err.fault (standing g.D.Disk g.T.Told c.loop.owner c.loop.out) c.take-number.result
    c.arrive-done.new.out.records.now (g.D.Disk.held c.arrive-done.new.out.disk.now)
    (λ file. c.is_strange.ensures (dataset_setting c.args.dataset.now) file c.loop.out.records.now refl ∙ c.if-is_strange.false) c.in-Err.ensures.refused)

pub returns-in-Err-clause-cause : goal.returns-in-Err-clause-cause
returns-in-Err-clause-cause g c = grind (arith, nat_tests, fault_cause, c.loop.invariant.later, c.in-Err.ensures.cause.later, c.in-Err.ensures.cause.failed)

pub loop-preserved : goal.loop-preserved
loop-preserved g c =
    let longer = c.loop.invariant.longer in
    let later = c.loop.invariant.later in
    let more = c.in_default.ensures.longer in
    let rest = c.in_default.ensures.cause.later in
    record {
      same = same_then c.loop.invariant.same c.arrive-done.ensures.same;
      served = served_more c.args.dataset.now.hints.now (dataset_setting c.args.dataset.now) c.args.inbox.now c.loop.inbox c.take-number.new.inbox c.loop.senders.ended c.take-number.new.self.ended
          (standing g.D.Disk g.T.Told c.args.owner.now c.args.out.now)
          (standing g.D.Disk g.T.Told c.loop.owner c.loop.out)
          (standing g.D.Disk g.T.Told c.arrive-done.new.self c.arrive-done.new.out) c.take-number.result c.loop.invariant.served
          (record { items = c.take-number.ensures.items; senders = c.take-number.ensures.senders; of = c.take-number.ensures.of; low = c.take-number.ensures.number; noted = c.take-number.ensures.noted })
          (λ file. c.is_strange.ensures (dataset_setting c.args.dataset.now) file c.loop.out.records.now refl ∙ c.if-is_strange.false) c.in_default.ensures.done;
      steady = c.in_default.ensures.steady;
      lines = c.in_default.ensures.done.lines.long ∙ c.loop.invariant.lines;
      senders = c.take-number.ensures.senders ∙ c.loop.invariant.senders;
      from = c.in_default.ensures.from;
      longer = omega arith;
      later = omega arith;
    }
