-- One thread more was joined.
use Rattle.thread_run.proofs.Words.{◌<◌, ◌++◌, refl, sym, ◌∙◌, ap, length, map, slice_get_within, arith, nat_tests}
use Rattle.thread_run.proofs.ThreadStarts.{both_long, get_mapped, own_number}
use Rattle.thread_run.proofs.ThreadJoins.{map_snoc, none_left, of_either, settled_first, settled_push}
use Rattle.thread_run.proofs.returned.join_all.Goals as goal

pub loop-one-init : goal.loop-one-init
loop-one-init g c = record {
  ones = ap (λ z. z.a.rest.items) c.into_iter-one-iterator.ensures.into_iter_gives ∙ ap (λ z. z.rest.items) c.zip-one-items.ensures.first ∙ c.into_iter.ensures.rest;
  lines = ap (λ z. z.b.rest.items) c.into_iter-one-iterator.ensures.into_iter_gives ∙ c.zip-one-items.ensures.second.0;
  inbox = refl;
  long = ap (λ v. length v) c.requires.none;
  settled = settled_first c.args.inbox.items c.args.ones.items c.args.lines.items c.args.ends.now.items c.requires.none;
  room = refl;
}

pub join_one-end-requires : goal.join_one-end-requires
join_one-end-requires g c =
    let ones = ap (λ v. map (λ p. p.0) c.loop-one.yielded ++ v) (sym c.in-Some.ensures.steps.0.0) ∙ c.loop-one.invariant.ones in
    let lines = ap (λ v. map (λ p. p.1) c.loop-one.yielded ++ v) (sym c.in-Some.ensures.steps.1.0) ∙ c.loop-one.invariant.lines in
    own_number c.args.inbox.of c.loop-one.inbox.of (length c.loop-one.yielded) _ c.in-Some.one c.in-Some.line (ap (λ z. z.of) (sym c.loop-one.invariant.inbox))
    (c.requires.handles.each (length c.loop-one.yielded) c.in-Some.one c.in-Some.line (get_mapped (λ p. p.0) c.loop-one.yielded c.in-Some.one _ c.args.ones.items ones)
    (get_mapped (λ p. p.1) c.loop-one.yielded c.in-Some.line _ c.args.lines.items lines))

pub push_reserved-requires : goal.push_reserved-requires
push_reserved-requires g c =
    let ones = ap (λ v. map (λ p. p.0) c.loop-one.yielded ++ v) (sym c.in-Some.ensures.steps.0.0) ∙ c.loop-one.invariant.ones in
    let low : length c.loop-one.yielded < length c.args.ones.items = slice_get_within c.args.ones.items (length c.loop-one.yielded) c.in-Some.one (get_mapped (λ p. p.0) c.loop-one.yielded c.in-Some.one _ c.args.ones.items ones) in
    grind (arith, nat_tests, c.loop-one.invariant.long, c.requires.room, c.loop-one.invariant.room)

pub loop-one-preserved : goal.loop-one-preserved
loop-one-preserved g c =
    let ones = ap (λ v. map (λ p. p.0) c.loop-one.yielded ++ v) (sym c.in-Some.ensures.steps.0.0) ∙ c.loop-one.invariant.ones in
    let lines = ap (λ v. map (λ p. p.1) c.loop-one.yielded ++ v) (sym c.in-Some.ensures.steps.1.0) ∙ c.loop-one.invariant.lines in
    let one = get_mapped (λ p. p.0) c.loop-one.yielded c.in-Some.one _ c.args.ones.items ones in
    let line = get_mapped (λ p. p.1) c.loop-one.yielded c.in-Some.line _ c.args.lines.items lines in
    let own = c.requires.handles.each (length c.loop-one.yielded) c.in-Some.one c.in-Some.line one line in
    grind (arith, nat_tests, map_snoc, both_long, settled_push, c.join_one-end.ensures.inbox, c.loop-one.invariant.inbox, c.loop-one.invariant.long, c.join_one-end.ensures.settled, c.loop-one.invariant.settled, c.push_reserved.ensures.capacity, c.loop-one.invariant.room)

pub returns : goal.returns
returns g c = record {
  long = grind (arith, nat_tests, of_either, none_left, c.loop-one.invariant.long, c.loop-one.invariant.ones, c.loop-one.invariant.lines, c.requires.handles.long);
  each = c.loop-one.invariant.settled;
}
