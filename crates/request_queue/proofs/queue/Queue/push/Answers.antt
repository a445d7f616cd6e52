use Rattle.request_queue.proofs.Words.{◌≡◌, ◌∷◌, ◌++◌, [], ◌∙◌, ap, List, arith, false, Posted, Queued, with_request, Waiting, as_posted, posted_of, Posting, Account, option_map, nat_tests}
use Rattle.request_queue.proofs.PostedLaws.{posted-push, is_null-push, waiting-push, count-push, accounts-push, new_lacks}
use Rattle.request_queue.proofs.queue.Queue.push.Goals as goal

pub push-requires : goal.push-requires
push-requires c = grind (arith, nat_tests, new_lacks, c.requires.fresh, c.self.invariant.waiting)

abbrev posting : goal.After-push_reserved → Posting
posting c = record { id = c.args.request.id; null = false }

listed : (c : goal.After-push_reserved) → posted_of c.push_reserved.new.self.items c.push.new.self
    ≡ posted_of c.self.inside.history.items c.self.inside.waiting ++ as_posted c.args.request ∷ []
listed c = grind (arith, nat_tests, posted-push, c.in_ok-push.ensures.ok, c.requires.fresh, c.self.invariant.waiting)

pub invariant_of-self-2 : goal.invariant_of-self-2
invariant_of-self-2 c =
    let a = c.self.inside in
    grind (arith, nat_tests, is_null-push, listed, waiting-push, accounts-push, count-push, c.self.invariant.nulls, c.in_ok-push.ensures.ok, c.self.invariant.buffered)

pub returns-clause-ok : goal.returns-clause-ok
returns-clause-ok c = ap (λ (l : List Posted). record { posted = l; attached = option_map (λ (a : Account). a.size) c.self.inside.room }) (listed c) ∙ ap (λ (q : Queued). with_request q c.args.request.id (Waiting c.args.request.kind c.args.request.posts)) c.self.view_is
