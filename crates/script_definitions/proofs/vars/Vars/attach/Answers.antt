use Rattle.script_definitions.proofs.Words.{◌≡◌, ◌∙◌, List, ◌++◌, ◌∷◌, [], slice_set, length, refl, sym, ap, arith, on_ok_weaker, Attr, with_attr_at}
use Rattle.script_definitions.proofs.VarLaws.{names_kept, attached}
use Rattle.script_definitions.proofs.vars.Vars.attach.Goals as goal

pub invariant_of-self : goal.invariant_of-self
invariant_of-self c =
    let v = c.index_mut.result.now in
    c.self.invariant ∙ sym (names_kept c.self.inside.list.items c.args.place v (record v { attrs = c.push.new.self }) c.index_mut.ensures.value refl (omega (arith, ap length c.self.view_is)))

pub returns : goal.returns
returns c =
    let v = c.index_mut.result.now in
    on_ok_weaker c.push.result
    (λ (more : c.push.new.self ≡ v.attrs ++ c.args.attr ∷ []).
    ap (λ (attrs : List Attr). slice_set c.self.inside.list.items c.args.place (record v { attrs = attrs })) more
    ∙ attached c.self.inside.list.items c.args.place v c.args.attr c.index_mut.ensures.value (omega (arith, ap length c.self.view_is))
    ∙ ap (with_attr_at c.args.place c.args.attr) c.self.view_is)
    c.push.ensures.ok
