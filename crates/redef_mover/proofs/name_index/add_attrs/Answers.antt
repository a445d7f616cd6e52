use Rattle.redef_mover.proofs.Words.{◌∙◌, ◌+◌, ◌<◌, ◌||◌, ◌&&◌, List, [], ◌∷◌, ◌++◌, length, take, sym, ap, arith, take_more, take_all, Attr, has_attr, has_name, is_same, nat_tests}
use Rattle.redef_mover.proofs.IndexLaws.{names_next, or_none}
use Rattle.redef_mover.proofs.name_index.add_attrs.Goals as goal

pub loop-attr-init : goal.loop-attr-init
loop-attr-init c = λ o q. or_none (has_name c.args.names.now o q) (is_same c.args.owner o)

pub loop-attr-preserved : goal.loop-attr-preserved
loop-attr-preserved c =
    let attrs = c.args.attrs.now in
    let k = c.loop-attr.attr-index in
    let attr = c.attr-item.result in
    let within : k < length attrs = omega arith in
    let more = take_more attrs k attr within ∙ ap (λ (a : Attr). take k attrs ++ a ∷ []) (sym c.attr-item.is) in
    grind (arith, nat_tests, names_next c.args.owner (take k attrs) (take (k + 1) attrs) attr c.args.names.now c.loop-attr.names, c.loop-attr.invariant, c.in_ok-add_attr.ensures, c.as_slice.ensures)

pub returns : goal.returns
returns c =
    let attrs = c.args.attrs.now in
    λ o q. c.loop-attr.invariant o q ∙ ap (λ (l : List Attr). has_name c.args.names.now o q || (is_same c.args.owner o && has_attr l q)) (take_all c.loop-attr.attr-index attrs (omega arith))
