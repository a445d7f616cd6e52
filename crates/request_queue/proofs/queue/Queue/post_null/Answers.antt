use Rattle.request_queue.proofs.Words.{◌∷◌, ◌++◌, [], ◌∙◌, ap, List, true, map-append, Posting, posted_of, standing, arith, nat_tests}
use Rattle.request_queue.proofs.PostedLaws.{not_posted, null-push, waiting-null}
use Rattle.request_queue.proofs.TakeLaws.{insert_is}
use Rattle.request_queue.proofs.queue.Queue.post_null.Goals as goal

pub invariant_of-self-2 : goal.invariant_of-self-2
invariant_of-self-2 c =
    let a = c.self.inside in
    let k = c.args.id in
    let posted = posted_of a.history.items a.waiting in
    let new : Posting = record { id = k; null = true } in
    let history = c.push_reserved.ensures.items ∙ ap (λ (l : List Posting). l ++ new ∷ []) c.reserve.ensures.items in
    let listed = ap (λ (l : List Posting). posted_of l a.waiting) history ∙ map-append (standing a.waiting) a.history.items (new ∷ []) in
    grind (arith, nat_tests, not_posted, insert_is, null-push, waiting-null, c.requires.fresh, c.in_ok-insert.ensures.updates.0, c.self.invariant.nulls, c.self.invariant.waiting, c.self.invariant.room, c.self.invariant.buffered)
