use Rattle.var_layout.proofs.Words.{◌≡◌, List, length, map, max, ap, ◌∙◌, arith, take_all, Var, header_len, greatest, end_of_var, capped}
use Rattle.var_layout.proofs.Capping.{capped_greatest_more}
use Rattle.var_layout.proofs.Searches.{lies_in}
use Rattle.var_layout.proofs.measures.fixed_end.Goals as goal

pub loop-var-preserved : goal.loop-var-preserved
loop-var-preserved c =
    let header = c.args.header.now in
    let item = c.var-item.result in
    let lies = lies_in header _ c.loop-var.var-index item c.as_slice-var-items.ensures (omega arith) c.var-item.is in
    c.max-end.ensures
    ∙ capped_greatest_more (λ v. end_of_var header 0 v) header.vars c.loop-var.var-index item (header_len header) c.loop-var.end c.end_if_fixed.result
    lies.within c.loop-var.invariant (c.end_if_fixed.ensures ∙ ap (λ (v : Var). capped (end_of_var header 0 v)) lies.there)

pub returns : goal.returns
returns c =
    let header = c.args.header.now in
    let same = ap (λ (vs : List Var). length vs) c.as_slice-var-items.ensures in
    let whole : c.loop-var.end ≡ capped (max (header_len header) (greatest (map (λ v. end_of_var header 0 v) header.vars))) =
    c.loop-var.invariant ∙ ap (λ (vs : List Var). capped (max (header_len header) (greatest (map (λ v. end_of_var header 0 v) vs))))
    (take_all c.loop-var.var-index header.vars (omega arith)) in
    whole
