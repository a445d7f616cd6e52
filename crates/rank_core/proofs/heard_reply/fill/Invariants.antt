use Rattle.rank_core.proofs.Words.{◌≡◌, map, true, nat_cmp, get, into_iter_items, Item, In, is_ok_code, filled_by, AreOnce}
use Rattle.rank_core.proofs.heard_reply.fill.Given as goal

abbrev pub invariant-loop-item : goal.invariant-loop-item
invariant-loop-item l = record {
  filled : l.filled ≡ map (filled_by (get nat_cmp l.fn.found)) l.yielded;
  left : (i : Item) → In (into_iter_items l.item-iterator) i → is_ok_code i.code ≡ true → get nat_cmp l.found i.id ≡ get nat_cmp l.fn.found i.id;
  once : AreOnce (into_iter_items l.item-iterator);
}
