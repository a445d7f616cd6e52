use Rattle.request_queue.proofs.Words.{◌≡◌, ◌+◌, ◌++◌, ◌∙◌, ap, sym, subst, length, arith, rules, sum_by, option_copied, IsStrictlySortedBy, nat_cmp, values_of, deref, sum_by-cons, rest_more, sorted_tail, Request, posts_of, nat_tests}
use Rattle.request_queue.proofs.PlaceLaws.{at_keys, at_keys-none, found, none_left, found_next}
use Rattle.request_queue.proofs.requests.room_for.Goals as goal

pub loop-place-preserved-in-Some-get : goal.loop-place-preserved-in-Some-get
loop-place-preserved-in-Some-get c =
    let k = c.in-Some.place.now in
    let ks = c.next.new.self in
    let es = c.args.by_place.now.entries in
    let r = c.in-Some-get.request.now in
    let posts = λ (r : Request). length (posts_of c.args.direction r) in
    let cut = rest_more deref _ _ c.next.result c.in-Some.place c.in-Some.is c.next.ensures.steps in
    let now = c.loop-place.invariant in
    let hit = sym c.get.ensures.value ∙ ap option_copied c.in-Some-get.is in
    let total = ap (sum_by posts) (found_next _ ks k es es cut now.sorted c.requires) ∙ ap (λ o. sum_by posts (found o ++ values_of (at_keys ks es))) hit ∙ sum_by-cons posts r (values_of (at_keys ks es)) in
    let more : c.in_ok-count.count ≡ c.loop-place.count + c.posts_len.result = search rules in
    record {
      count = omega (arith, more, now.count, total, c.posts_len.ensures);
      sorted = sorted_tail nat_cmp k ks (subst (IsStrictlySortedBy nat_cmp) cut now.sorted);
    }

pub loop-place-preserved : goal.loop-place-preserved
loop-place-preserved c =
    let k = c.in-Some.place.now in
    let ks = c.next.new.self in
    let es = c.args.by_place.now.entries in
    let posts = λ (r : Request). length (posts_of c.args.direction r) in
    let cut = rest_more deref _ _ c.next.result c.in-Some.place c.in-Some.is c.next.ensures.steps in
    let now = c.loop-place.invariant in
    let miss = sym c.get.ensures.value ∙ ap option_copied (none_left c.get.result c.in_default.not-Some) in
    let total = ap (sum_by posts) (found_next _ ks k es es cut now.sorted c.requires) ∙ ap (λ o. sum_by posts (found o ++ values_of (at_keys ks es))) miss in
    record {
      count = omega (arith, now.count, total);
      sorted = sorted_tail nat_cmp k ks (subst (IsStrictlySortedBy nat_cmp) cut now.sorted);
    }

pub returns-clause-room : goal.returns-clause-room
returns-clause-room c =
    grind (arith, nat_tests, values_of, at_keys-none, c.in-None.is, c.next.ensures.steps, c.loop-place.invariant.count, c.in_ok-with_capacity.ensures.capacity)
