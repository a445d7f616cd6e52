-- The values that are left for the items behind are those that they had.
use Rattle.rank_core.proofs.Words.{◌≡◌, ◌∙◌, ◌++◌, ◌∷◌, [], List, inl, refl, subst, sym, true, map_push, nat_cmp, get, into_iter_items, Item, In, is_ok_code, filled_by, AreOnce}
use Rattle.rank_core.proofs.HeardLaws.{filled_same, left_kept}
use Rattle.rank_core.proofs.heard_reply.fill.Goals as goal

pub loop-item-preserved : goal.loop-item-preserved
loop-item-preserved c =
    let first = get nat_cmp c.args.found in
    let before = get nat_cmp c.loop-item.found in
    let item = c.in-Some.item in
    let items : into_iter_items c.loop-item.item-iterator ≡ item ∷ into_iter_items c.next.new.self = c.in-Some.ensures.steps.0 in
    let once = subst (λ (l : List Item). AreOnce l) items c.loop-item.invariant.once in
    let left = subst (λ (l : List Item). (i : Item) → In l i → is_ok_code i.code ≡ true → before i.id ≡ first i.id) items c.loop-item.invariant.left in
    let filled = c.with_values.ensures.item ∙ filled_same before first item (left item (inl refl)) in
    record {
      filled = c.in_ok-push.ensures.ok ∙ (λ i. c.loop-item.invariant.filled i ++ filled i ∷ []) ∙ sym (map_push (filled_by first) c.loop-item.yielded item);
      left = left_kept before (get nat_cmp c.with_values.new.found) first item (into_iter_items c.next.new.self) once c.with_values.ensures.others c.with_values.ensures.kept left;
      once = once.1;
    }
