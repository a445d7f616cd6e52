use Rattle.request_queue.proofs.Words.{ℕ, ◌∙◌, ap, sym, subst, List, length, None, refl, arith, append-nil, IfNone, IsStrictlySortedBy, nat_cmp, values_of, deref, IsUnchanged, rest_more, sorted_tail, nat_tests}
use Rattle.request_queue.proofs.IndexLaws.{index_removed, index_same}
use Rattle.request_queue.proofs.PlaceLaws.{at_keys-none, at_others-none, none_left, taken_next, left_next}
use Rattle.request_queue.proofs.requests.take_all.Goals as goal

pub loop-place-preserved-in-Some-remove : goal.loop-place-preserved-in-Some-remove
loop-place-preserved-in-Some-remove c =
    let k = c.in-Some.place.now in
    let ks = c.next.new.self in
    let es = c.loop-place.by_place.entries in
    let cut = rest_more deref _ _ c.next.result c.in-Some.place c.in-Some.is c.next.ensures.steps in
    let now = c.loop-place.invariant in
    let hit = sym c.in-Some-remove.is ∙ c.remove.ensures.value in
    let fewer = ap (λ (l : List ℕ). length l) cut in
    record {
      sorted = sorted_tail nat_cmp k ks (subst (IsStrictlySortedBy nat_cmp) cut now.sorted);
      taken = taken_next _ ks k es _ cut now.sorted now.ordered _ _ _ _ hit c.remove.ensures.entries c.push_reserved.ensures.items now.taken;
      left = left_next _ ks k es _ cut now.sorted now.ordered _ c.remove.ensures.entries now.left;
      ordered = c.remove.ensures.ordered;
      index = index_removed c.loop-place.places c.remove-in-Some-remove.new.self c.loop-place.by_place c.remove.new.self k c.in-Some-remove.request now.index (sym hit) c.remove.ensures.updates.0 c.remove-in-Some-remove.ensures.updates.0;
      room = omega (arith, fewer, now.room, c.push_reserved.ensures.len, c.push_reserved.ensures.capacity);
    }

pub loop-place-preserved : goal.loop-place-preserved
loop-place-preserved c =
    let k = c.in-Some.place.now in
    let ks = c.next.new.self in
    let es = c.loop-place.by_place.entries in
    let cut = rest_more deref _ _ c.next.result c.in-Some.place c.in-Some.is c.next.ensures.steps in
    let now = c.loop-place.invariant in
    let none = none_left c.remove.result c.in_default.not-Some in
    let miss = sym none ∙ c.remove.ensures.value in
    let same = subst (λ o. IfNone o (IsUnchanged c.loop-place.by_place c.remove.new.self)) none c.remove.ensures.unchanged in
    let fewer = ap (λ (l : List ℕ). length l) cut in
    record {
      sorted = sorted_tail nat_cmp k ks (subst (IsStrictlySortedBy nat_cmp) cut now.sorted);
      taken = taken_next _ ks k es _ cut now.sorted now.ordered _ _ _ None miss c.remove.ensures.entries (sym (append-nil c.loop-place.taken.items)) now.taken;
      left = left_next _ ks k es _ cut now.sorted now.ordered _ c.remove.ensures.entries now.left;
      ordered = c.remove.ensures.ordered;
      index = index_same c.loop-place.places c.loop-place.places c.loop-place.by_place c.remove.new.self refl same now.index;
      room = omega (arith, fewer, now.room);
    }

pub returns-clause-taken : goal.returns-clause-taken
returns-clause-taken c = grind (arith, nat_tests, values_of, at_keys-none, append-nil, c.in-None.is, c.next.ensures.steps, c.loop-place.invariant.taken)

pub returns-clause-left : goal.returns-clause-left
returns-clause-left c = grind (arith, nat_tests, at_others-none, c.in-None.is, c.next.ensures.steps, c.loop-place.invariant.left)
