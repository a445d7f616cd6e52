-- The threads, the owner and the close together.
use Rattle.thread_run.proofs.Words.{List, [], ◌∷◌, sym, ◌∙◌, ap, subst, rules, Some, with_items_is, OwnerItem, End, AreRankHandles, AreSettled, arrived, gained, RankHandle, Go, StepErr, lawful_hints, ℕ, IsDone, counted, opening, passed, setting_of}
use Rattle.thread_run.proofs.ThreadAll.{known_sound, run_all}
use Rattle.thread_run.proofs.ThreadCut.{run_cut}
use Rattle.thread_run.proofs.ThreadTold.{run_told}
use Rattle.thread_run.proofs.ThreadSettles.{handles_told, told_all, are_served}
use Rattle.thread_run.proofs.rank_threads.run_started.Goals as goal
use Rattle.thread_run.proofs.ThreadTies.{OwnerSide}

pub serve-served-requires-clause-hints : goal.serve-served-requires-clause-hints
serve-served-requires-clause-hints g c κs within = lawful_hints c.args.run.now.script.now c.args.run.now.lawful

pub join_all-requires-clause-handles : goal.join_all-requires-clause-handles
join_all-requires-clause-handles g c =
    let served = c.serve-served.ensures in let inbox = c.serve-served.new.inbox in
    let s = are_served c.args.started c.requires.started c.deref_mut.ensures.value c.from_vec-back.ensures c.tell_all.ensures.told c.tell_all.ensures.long served.taken served.put in
    subst (λ (v : List RankHandle). AreRankHandles inbox.of (Go ∷ []) v c.into_vec.result.items) (sym (with_items_is c.args.started.ones c.tell_all.new.ones (search rules)))
    (subst (λ (v : List (End OwnerItem)). AreRankHandles inbox.of (Go ∷ []) c.tell_all.new.ones v) (sym c.into_vec.ensures) (handles_told s))

pub end_run-requires-clause-count : goal.end_run-requires-clause-count
end_run-requires-clause-count g c κs within = λ none. c.serve-served.ensures.count

pub end_run-requires-clause-known : goal.end_run-requires-clause-known
end_run-requires-clause-known g c κs within =
    let now = c.tell_all.new.ones in let back = c.serve-served.new.back in
    let served = c.serve-served.ensures in let inbox = c.serve-served.new.inbox in let ends = c.join_all.new.ends.items in
    let s = are_served c.args.started c.requires.started c.deref_mut.ensures.value c.from_vec-back.ensures c.tell_all.ensures.told c.tell_all.ensures.long served.taken served.put in
    let settled : AreSettled inbox.items now back ends = subst (λ (v : List (End OwnerItem)). AreSettled inbox.items now v ends) c.into_vec.ensures
    (subst (λ (v : List RankHandle). AreSettled inbox.items v c.into_vec.result.items ends) (with_items_is c.args.started.ones now (search rules)) c.join_all.ensures) in
    let script = c.args.run.now.script.now in let header = c.args.run.now.header.now in
    let arrivals = arrived c.args.started.inbox inbox in let given = gained c.from_vec-back.result back in
    let all = told_all c.args.run.now.lawful s settled in
    let senders = c.requires.started.senders in
    let clients = senders ∙ sym all.calls in
    λ none whole. known_sound all c.args.run.now.sound c.args.run.now.lawful c.serve-served.result
    (λ file. subst (λ (p : ℕ × ℕ). IsDone (setting_of script header) (opening p.1 (counted file header.records)) (passed arrivals p.0 given) c.serve-served.result.order c.serve-served.result.stranger)
    (λ i. (senders i, clients i)) (served.done none file)) whole

pub returns : goal.returns
returns g c =
    let now = c.tell_all.new.ones in let back = c.serve-served.new.back in
    let served = c.serve-served.ensures in let inbox = c.serve-served.new.inbox in let ends = c.join_all.new.ends.items in
    let s = are_served c.args.started c.requires.started c.deref_mut.ensures.value c.from_vec-back.ensures c.tell_all.ensures.told c.tell_all.ensures.long served.taken served.put in
    let settled : AreSettled inbox.items now back ends = subst (λ (v : List (End OwnerItem)). AreSettled inbox.items now v ends) c.into_vec.ensures
    (subst (λ (v : List RankHandle). AreSettled inbox.items v c.into_vec.result.items ends) (with_items_is c.args.started.ones now (search rules)) c.join_all.ensures) in
    let script = c.args.run.now.script.now in let header = c.args.run.now.header.now in
    let arrivals = arrived c.args.started.inbox inbox in let given = gained c.from_vec-back.result back in
    let all = told_all c.args.run.now.lawful s settled in let end = c.end_run.ensures in
    let senders = c.requires.started.senders in
    let clients = senders ∙ sym all.calls in
    let owner = subst (λ (p : ℕ × ℕ). OwnerSide script header arrivals given p.0 p.1 (g.D.Disk.held c.args.disk.now) (g.D.Disk.calls c.args.disk.now) (g.D.Disk.faults c.args.disk.now) (g.T.Told.heard c.args.told.now)
    (g.D.Disk.held c.serve-served.new.disk) (g.D.Disk.calls c.serve-served.new.disk) (g.D.Disk.faults c.serve-served.new.disk) c.serve-served.new.records (g.T.Told.heard c.serve-served.new.told) c.serve-served.result)
    (λ i. (senders i, clients i)) (record {
      done = served.done;
      counts = served.records;
      bytes = served.bytes;
      device = served.calls;
      cut_off = served.failed;
      cut = served.cut;
      told_along = served.told;
      cause = served.cause;
      later = served.later;
    }) in
    record {
      run = run_all all c.args.run.now.sound c.args.run.now.lawful owner (record {
        order = end.order;
        went = end.served;
        closed = end.closed;
        sound = end.sound;
        answers = end.answers;
        pending = end.pending;
        none_pending = end.none_pending;
        first = end.first;
        cause = end.cause;
        later = end.later;
      }) (run_cut all c.args.run.now.sound c.args.run.now.lawful {end = c.end_run.result} owner (λ e is. record {
        order = end.order;
        at = end.at e is;
        rows = end.rows e is;
        whole = λ disk. end.broke (is ∙ ap (λ (x : StepErr). Some x) disk);
        kept = λ disk. end.kept (is ∙ ap (λ (x : StepErr). Some x) disk);
      }));
      told = run_told all c.args.run.now.sound c.args.run.now.lawful owner c.end_run.result.order end.order;
    }
