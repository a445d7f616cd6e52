use Rattle.request_queue.proofs.Words.{◌≡◌, ◌∙◌, ap, sym, List, ℕ, map, arith, filter, flat_map-map, Posted, chosen, named, is_chosen, has_id, puts_in, gets_in, Queued, rank_with, as_posted, is_listed, nat_tests}
use Rattle.request_queue.proofs.LeaveLaws.{taken, taken_is, same_posts}
use Rattle.request_queue.proofs.queue.Queue.take.Goals as goal

pub batch_of-requires-clause-puts_room : goal.batch_of-requires-clause-puts_room
batch_of-requires-clause-puts_room c =
    let a = c.self.inside in
    let listed = has_id c.as_slice-3.result.now in
    let same = c.in_ok-taken.ensures.taken ∙ ap (λ (q : Queued). filter (is_listed listed) q.posted) (sym c.self.view_is) ∙ sym (taken_is listed a.history.items a.waiting c.self.invariant.waiting) in
    grind (arith, nat_tests, same_posts puts_in c.in_ok-taken.taken.items (taken listed a.waiting) same, taken listed a.waiting, c.as_slice-2.ensures.value, c.as_slice-3.ensures.value, c.in_ok-puts.ensures.puts)

pub batch_of-requires-clause-gets_room : goal.batch_of-requires-clause-gets_room
batch_of-requires-clause-gets_room c =
    let a = c.self.inside in
    let listed = has_id c.as_slice-3.result.now in
    let same = c.in_ok-taken.ensures.taken ∙ ap (λ (q : Queued). filter (is_listed listed) q.posted) (sym c.self.view_is) ∙ sym (taken_is listed a.history.items a.waiting c.self.invariant.waiting) in
    grind (arith, nat_tests, same_posts gets_in c.in_ok-taken.taken.items (taken listed a.waiting) same, taken listed a.waiting, c.as_slice-2.ensures.value, c.as_slice-3.ensures.value, c.in_ok-puts.ensures.gets)

pub returns-clause-batch : goal.returns-clause-batch
returns-clause-batch c =
    let old = c.args.self.now in
    let ids : c.as_slice-3.result.now ≡ named (rank_with old) c.args.choice.now = c.as_slice-3.ensures.value ∙ c.in_ok-ids.ensures in
    let all : map as_posted c.in_ok-taken.taken.items ≡ chosen (rank_with old) c.args.choice.now =
    c.in_ok-taken.ensures.taken ∙ ap (λ (l : List ℕ). filter (is_chosen l) old.posted) ids in
    let puts = c.batch_of.ensures.puts ∙ sym (flat_map-map (λ (p : Posted). puts_in p.status) as_posted c.in_ok-taken.taken.items) in
    let gets = c.batch_of.ensures.gets ∙ sym (flat_map-map (λ (p : Posted). gets_in p.status) as_posted c.in_ok-taken.taken.items) in
    grind (arith, nat_tests)
