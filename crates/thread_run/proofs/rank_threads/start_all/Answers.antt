-- One thread more.
use Rattle.thread_run.proofs.Words.{◌≡◌, sym, ◌∙◌, ap, subst, ◌++◌, [], ◌<◌, All, All-push, length, slice_get_within, arith, nat_tests}
use Rattle.thread_run.proofs.ThreadStarts.{all_middle, both_long, get_middle, number_middle, of_push, handle_at, handles_push, snoc_append}
use Rattle.thread_run.proofs.rank_threads.start_all.Goals as goal

pub start-requires-clause-number : goal.start-requires-clause-number
start-requires-clause-number g c κs within = grind (arith, nat_tests, number_middle, c.in-Some.ensures.steps.0, c.loop-out.invariant.all, c.requires.numbers)

pub start-requires-clause-put : goal.start-requires-clause-put
start-requires-clause-put g c κs within =
    let middle = ap (λ v. c.loop-out.yielded ++ v) (sym c.in-Some.ensures.steps.0) ∙ c.loop-out.invariant.all in
    all_middle (λ s. s.items ≡ []) c.loop-out.yielded c.in-Some.out _ c.args.senders.items middle c.requires.put

pub push_reserved-requires : goal.push_reserved-requires
push_reserved-requires g c =
    let middle = ap (λ v. c.loop-out.yielded ++ v) (sym c.in-Some.ensures.steps.0) ∙ c.loop-out.invariant.all in
    let low : length c.loop-out.yielded < length c.args.senders.items = slice_get_within c.args.senders.items (length c.loop-out.yielded) c.in-Some.out (get_middle c.loop-out.yielded c.in-Some.out _ c.args.senders.items middle) in
    grind (arith, nat_tests, c.loop-out.invariant.long, c.requires.ones_room, c.loop-out.invariant.ones_room)

pub push_reserved-requires-in-Some-start : goal.push_reserved-requires-in-Some-start
push_reserved-requires-in-Some-start g c =
    let middle = ap (λ v. c.loop-out.yielded ++ v) (sym c.in-Some.ensures.steps.0) ∙ c.loop-out.invariant.all in
    let low : length c.loop-out.yielded < length c.args.senders.items = slice_get_within c.args.senders.items (length c.loop-out.yielded) c.in-Some.out (get_middle c.loop-out.yielded c.in-Some.out _ c.args.senders.items middle) in
    grind (arith, nat_tests, c.loop-out.invariant.as_long, c.requires.lines_room, c.loop-out.invariant.lines_room)

pub loop-out-preserved : goal.loop-out-preserved
loop-out-preserved g c =
    let middle = ap (λ v. c.loop-out.yielded ++ v) (sym c.in-Some.ensures.steps.0) ∙ c.loop-out.invariant.all in
    let number = number_middle (λ s. s.number) c.loop-out.yielded c.in-Some.out _ c.args.senders.items c.args.lent.now.run.now.script.now.ranks middle c.requires.numbers in
    record {
      all = snoc_append c.loop-out.yielded c.in-Some.out _ ∙ middle;
      long = both_long c.loop-out.ones.items _ c.in-Some-start.one c.loop-out.yielded c.in-Some.out c.push_reserved.ensures.items c.loop-out.invariant.long;
      as_long = both_long c.loop-out.lines.items _ c.in-Some-start.line c.loop-out.yielded c.in-Some.out c.push_reserved-in-Some-start.ensures.items c.loop-out.invariant.as_long;
      of = of_push c.args.lent.now.run.now.header.now c.args.lent.now.run.now.script.now c.loop-out.ones.items _ c.in-Some-start.one c.push_reserved.ensures.items c.loop-out.invariant.of c.in-Some-start.ensures.of;
      handles = λ inbox every.
          handles_push inbox [] c.loop-out.ones.items _ c.loop-out.lines.items _ c.in-Some-start.one c.in-Some-start.line c.push_reserved.ensures.items c.push_reserved-in-Some-start.ensures.items
          (c.loop-out.invariant.handles inbox every)
          (handle_at inbox c.in-Some.out.of _ c.in-Some.out.number [] c.in-Some-start.one c.in-Some-start.line (number.0 ∙ sym c.loop-out.invariant.long)
          (all_middle (λ s. s.of ≡ inbox) c.loop-out.yielded c.in-Some.out _ c.args.senders.items middle every) c.in-Some-start.ensures.handle);
      empty = subst (λ v. All (λ line. line.items ≡ []) v) (sym c.push_reserved-in-Some-start.ensures.items)
          (All-push (λ line. line.items ≡ []) c.loop-out.lines.items c.in-Some-start.line c.loop-out.invariant.empty c.in-Some-start.ensures.empty);
      ones_room = c.push_reserved.ensures.capacity ∙ c.loop-out.invariant.ones_room;
      lines_room = c.push_reserved-in-Some-start.ensures.capacity ∙ c.loop-out.invariant.lines_room;
    }
