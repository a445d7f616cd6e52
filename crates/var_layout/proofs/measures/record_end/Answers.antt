use Rattle.var_layout.proofs.Words.{◌≡◌, List, length, map, max, ap, ◌∙◌, arith, take_all, Var, greatest, capped, first_end, record_end}
use Rattle.var_layout.proofs.Capping.{capped_greatest_more}
use Rattle.var_layout.proofs.Searches.{lies_in}
use Rattle.var_layout.proofs.measures.record_end.Goals as goal

pub loop-var-preserved : goal.loop-var-preserved
loop-var-preserved c =
    let header = c.args.header.now in
    let item = c.var-item.result in
    let lies = lies_in header _ c.loop-var.var-index item c.as_slice-var-items.ensures (omega arith) c.var-item.is in
    c.max-end.ensures
    ∙ capped_greatest_more (λ v. first_end header v) header.vars c.loop-var.var-index item 0 c.loop-var.end c.first_end.result
    lies.within c.loop-var.invariant (c.first_end.ensures ∙ ap (λ (v : Var). capped (first_end header v)) lies.there)

pub returns : goal.returns
returns c =
    let header = c.args.header.now in
    let same = ap (λ (vs : List Var). length vs) c.as_slice-var-items.ensures in
    let whole : c.loop-var.end ≡ capped (max 0 (record_end header)) =
    c.loop-var.invariant ∙ ap (λ (vs : List Var). capped (max 0 (greatest (map (λ v. first_end header v) vs))))
    (take_all c.loop-var.var-index header.vars (omega arith)) in
    omega arith
