use Rattle.redef_mover.proofs.Words.{◌++◌, List, length, map, sym, ap, ◌∙◌, map-append, by_begin, NumberedVar, Old, New, fixed_var, fixed_at, in_order, refilled}
use Rattle.redef_mover.proofs.Sorting.{sorted_map}
use Rattle.redef_mover.proofs.new_begins.fixed_order.Goals as goal

pub returns : goal.returns
returns c =
    let header = c.args.header.now in
    let old = fixed_at header c.args.n Old in
    let key = λ (v : NumberedVar). v.begin in
    let lent = c.as_mut_slice.ensures.seen in
    let whole = refilled c.push_fixed.new.order c.sort_by_begin.new.vars (c.sort_by_begin.auto.vars ∙ ap (λ (vars : List NumberedVar). length vars) lent) in
    let unsorted = lent ∙ c.in_ok-push_fixed.ensures ∙ ap (λ vars. vars ++ map (fixed_var header) old) c.new-order.ensures in
    let sorted = whole ∙ c.in_ok-sort_by_begin.ensures ∙ ap (λ vars. in_order vars) unsorted ∙ sorted_map key (fixed_var header) old in
    c.in_ok-push_fixed-2.ensures ∙ ap (λ vars. vars ++ map (fixed_var header) (fixed_at header c.args.n New)) sorted
    ∙ sym (map-append (fixed_var header) (by_begin old) (fixed_at header c.args.n New))
