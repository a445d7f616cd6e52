use Rattle.redef_mover.proofs.Words.{◌∙◌, ◌+◌, ◌<◌, ◌||◌, ◌&&◌, List, get_or, Some, [], ◌∷◌, ◌++◌, length, take, sym, ap, arith, take_more, take_all, length-take-le, Attr, Var, has_attr, attrs_among, has_name, is_same, nat_tests}
use Rattle.redef_mover.proofs.IndexLaws.{owners_next, owners_none}
use Rattle.redef_mover.proofs.name_index.attr_names.Goals as goal

pub loop-place-init : goal.loop-place-init
loop-place-init c = grind (arith, nat_tests, owners_none, c.in_ok-add_attrs.ensures, c.as_slice.ensures)

pub loop-place-preserved : goal.loop-place-preserved
loop-place-preserved c =
    let vars = c.args.header.now.vars in
    let k = c.loop-place.place in
    let var = c.var-item.result in
    let old = c.loop-place.names in
    let same = ap (λ (vs : List Var). length vs) c.as_slice-var-items.ensures in
    let within : k < length vars = omega arith in
    let there = c.var-item.is ∙ ap (λ (vs : List Var). get_or vs k var) c.as_slice-var-items.ensures in
    let more = take_more vars k var within ∙ ap (λ (v : Var). take k vars ++ v ∷ []) (sym there) in
    owners_next c.args.header.now.attrs (take k vars) (take (k + 1) vars) var k old c.add_attrs-in-loop-place.new.names more (sym (length-take-le k vars (omega arith)))
    c.loop-place.invariant
    (λ o q. c.in_ok-add_attrs-2.ensures o q ∙ ap (λ (l : List Attr). has_name old o q || (is_same (Some k) o && has_attr l q)) c.as_slice-in-loop-place.ensures)

pub returns : goal.returns
returns c =
    let vars = c.args.header.now.vars in
    let same = ap (λ (vs : List Var). length vs) c.as_slice-var-items.ensures in
    λ o q. c.loop-place.invariant o q ∙ ap (λ (vs : List Var). has_attr (attrs_among c.args.header.now.attrs vs o) q) (take_all c.loop-place.place vars (omega arith))
