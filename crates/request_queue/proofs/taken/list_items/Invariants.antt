use Rattle.request_queue.proofs.Words.{◌≡◌, ◌++◌, drop, false, nat_cmp, contains, has_waiting, items_by}
use Rattle.request_queue.proofs.taken.list_items.Given as goal

abbrev pub invariant-loop-id : goal.invariant-loop-id
invariant-loop-id l = items_by (contains nat_cmp l.nulls) (has_waiting l.waiting) (λ _. false) l.ids
    ≡ l.items ++ items_by (contains nat_cmp l.nulls) (has_waiting l.waiting) (contains nat_cmp l.earlier) (drop l.id-index l.ids)
