use Rattle.std.proofs.Common.{◌≡◌, ap, sym, subst, List, None, arith}
use Rattle.std.proofs.lemmas.Bool.{ne_eqb}
use Rattle.serial_spec.specs.RankMachine.{Posted, status_of}
use Rattle.request_queue.specs.Queued.{Queued}
use Rattle.request_queue.proofs.PostedLaws.{status_of-push}
use Rattle.request_tests.proofs.tests.queues.pile.Goals as goal

pub loop-id-preserved : goal.loop-id-preserved
loop-id-preserved g c = λ k le.
    let id = c.one_int-post.ensures in
    let after = ap (λ (q : Queued). q.posted) c.post_put.ensures in
    subst (λ (l : List Posted). status_of l k ≡ None) (sym after)
    (status_of-push c.loop-id.queue.posted _ k (ne_eqb _ k (λ e. omega (arith, le, e, id))) (c.loop-id.invariant k (omega (arith, le))))
