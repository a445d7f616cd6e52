use Rattle.request_queue.proofs.Words.{◌∙◌, ap, sym, Bool, ◌||◌, Option, take, get_or, ℕ, list_any, nat_cmp, contains, list_any_more, is_place, stands_at}
use Rattle.request_queue.proofs.TakeLaws.{or_swap}
use Rattle.request_queue.proofs.requests.places_of.Goals as goal

pub loop-id-preserved : goal.loop-id-preserved
loop-id-preserved c = λ q.
    let ids = c.args.ids.now in
    let i = c.loop-id.id-index in
    let stands = stands_at c.args.places.now q in
    c.in_ok-add_place.ensures q ∙ ap (λ (o : Option ℕ). is_place q o || contains nat_cmp c.loop-id.listed q) c.get.ensures.value
    ∙ ap (λ (b : Bool). stands (get_or ids i 0) || b) (c.loop-id.invariant q)
    ∙ or_swap (stands (get_or ids i 0)) (list_any stands (take i ids)) ∙ sym (list_any_more stands ids i 0 c.loop-id-test.true)
