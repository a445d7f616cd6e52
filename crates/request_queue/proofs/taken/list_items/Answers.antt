use Rattle.request_queue.proofs.Words.{◌≡◌, ◌+◌, ◌∷◌, ◌++◌, [], ◌∙◌, ap, sym, ◌||◌, eqb, ℕ, List, None, drop, get_or, append_assoc, add-one, drop-cons, Code, nat_cmp, contains, Item, has_waiting, items_by, code_by}
use Rattle.request_queue.proofs.TakeLaws.{insert_is}
use Rattle.request_queue.proofs.taken.list_items.Goals as goal

pub loop-id-preserved : goal.loop-id-preserved
loop-id-preserved c =
    let ids = c.args.ids.now in
    let i = c.loop-id.id-index in
    let id = get_or ids i 0 in
    let null = contains nat_cmp c.args.nulls.now in
    let waits = has_waiting c.args.waiting.now in
    let earlier = contains nat_cmp c.loop-id.earlier in
    let rest = drop (i + 1) ids in
    let item : Item = record { id = id; code = code_by (null id) (waits id) (earlier id); values = None } in
    let next = add-one i in
    let cut : drop i ids ≡ id ∷ rest = drop-cons ids i 0 c.loop-id-test.true ∙ ap (λ (n : ℕ). id ∷ drop n ids) (sym next) in
    let seen : (q : ℕ) → (eqb id q || earlier q) ≡ contains nat_cmp c.insert.new.self q = λ q. sym (c.in_ok-insert.ensures.updates.0 q ∙ insert_is id q (earlier q)) in
    let set : items_by null waits (λ (q : ℕ). eqb id q || earlier q) rest ≡ items_by null waits (contains nat_cmp c.insert.new.self) rest =
    λ j. items_by null waits (λ (q : ℕ). seen q j) rest in
    let code = c.code_of-code.ensures ∙ (λ j. code_by (c.contains.ensures j) (c.contains-in-loop-id.ensures j) (c.contains-in-loop-id-2.ensures j)) in
    let pushed = c.in_ok-push.ensures.ok ∙ ap (λ (x : Code). c.loop-id.items ++ record { id = id; code = x; values = None } ∷ []) code in
    c.loop-id.invariant ∙ ap (λ (l : List ℕ). c.loop-id.items ++ items_by null waits earlier l) cut
    ∙ ap (λ (l : List Item). c.loop-id.items ++ item ∷ l) set
    ∙ sym (append_assoc c.loop-id.items (item ∷ []) (items_by null waits (contains nat_cmp c.insert.new.self) rest))
    ∙ ap (λ (l : List Item). l ++ items_by null waits (contains nat_cmp c.insert.new.self) rest) (sym pushed)
