use Rattle.rank_core.proofs.Words.{◌∙◌, sym, ap, subst, List, ℕ, map, range_with_len, IsPermutation, length-map, with_items_is, length_permutation, IsInOrder}
use Rattle.rank_core.proofs.names.in_order.Goals as goal

pub returns : goal.returns
returns g c =
    let names = map g.T.Named.name_of c.args.items.now in
    let places = c.sort_places.new.places in
    let all = c.as_mut_slice.ensures.value ∙ c.in_ok-places.ensures ∙ ap (λ (n : ℕ). range_with_len 0 n) (sym (length-map c.args.items.now g.T.Named.name_of)) in
    let long = length_permutation c.as_mut_slice.result.now places c.sort_places.ensures.each ∙ c.as_mut_slice.ensures.len in
    subst (IsInOrder names) (sym (with_items_is c.in_ok-places.places places long))
    (record { each = subst (λ (l : List ℕ). IsPermutation l places) all c.sort_places.ensures.each; sorted = c.sort_places.ensures.sorted })
