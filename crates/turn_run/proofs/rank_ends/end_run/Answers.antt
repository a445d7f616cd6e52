-- The ranks' ends, as a list that is lent.
use Rattle.turn_run.proofs.Words.{◌≡◌, List, sym, subst, None, true, ap, Err, inr, refl, StepErr, RankEnd, is_sound, contents_of, most_known_of, NoneBroke, EndedAt, in_close}
use Rattle.turn_run.proofs.EndedLaws.{ended_as}
use Rattle.turn_run.proofs.rank_ends.end_run.Goals as goal
use Rattle.turn_run.proofs.CutRuns.{raised_torn}

pub close-requires-clause-known : goal.close-requires-clause-known
close-requires-clause-known g c κs within =
    subst (λ (ends : List RankEnd). c.args.served.fault ≡ None → NoneBroke ends → is_sound (record c.args.header.now { records = most_known_of ends }) ≡ true) (sym c.deref.ensures.value) c.requires.known

pub returns-in-Ok-clause-served : goal.returns-in-Ok-clause-served
returns-in-Ok-clause-served g c = λ none. (c.in-Ok.ensures.served.0, subst (λ (ends : List RankEnd). NoneBroke ends) c.deref.ensures.value c.in-Ok.ensures.served.1)

pub returns-in-Ok-clause-at : goal.returns-in-Ok-clause-at
returns-in-Ok-clause-at g c = λ e is.
    subst (λ (ends : List RankEnd). EndedAt c.args.header.now ends c.args.served.fault e (contents_of (g.D.Disk.held c.args.disk.now) c.args.records.now) (contents_of (g.D.Disk.held c.close.new.disk) c.close.new.records)) c.deref.ensures.value
    (in_close c.in-Ok.ensures.served.0 c.in-Ok.ensures.served.1 (raised_torn c.args.header.now (g.D.Disk.held c.args.disk.now) (g.D.Disk.held c.close.new.disk) c.args.records.now _ c.in-Ok.ensures.closed.bytes)
    (inr c.in-Ok.ensures.closed.count))

pub returns-in-Ok-clause-rows : goal.returns-in-Ok-clause-rows
returns-in-Ok-clause-rows g c = λ e is. inr (c.ended.ensures.none e is)

pub returns-in-Err : goal.returns-in-Err
returns-in-Err g c =
    let cut = c.cut_off.ensures in let of = c.deref.ensures.value in
    record {
      order = cut.order;
      served = λ none. absurd (cut.some none);
      closed = λ none. absurd (cut.some none);
      sound = λ none. absurd (cut.some none);
      answers = λ none. absurd (cut.some none);
      pending = λ none. absurd (cut.some none);
      none_pending = λ e is. cut.none_pending;
      first = λ e some disk. c.in-Err.ensures.first e some (ap (λ (x : StepErr). Err x) (cut.disk disk).0);
      broke = λ disk. subst (λ (ends : List RankEnd). NoneBroke ends) of (c.in-Err.ensures.broke (ap (λ (x : StepErr). Err x) (cut.disk disk).0));
      kept = λ disk. (cut.disk disk).1;
      at = λ e is. subst (λ (ends : List RankEnd). EndedAt c.args.header.now ends c.args.served.fault e (contents_of (g.D.Disk.held c.args.disk.now) c.args.records.now) (contents_of (g.D.Disk.held c.close.new.disk) c.close.new.records)) of
          (ended_as _ _ _ _ _ _ _ _ _ (cut.fault e is) (c.in-Err.ensures.at c.in-Err.fault refl));
      rows = λ e is. cut.rows;
      cause = λ none disk. c.in-Err.ensures.cause none (ap (λ (x : StepErr). Err x) (cut.disk disk).0);
      later = c.in-Err.ensures.later;
    }
