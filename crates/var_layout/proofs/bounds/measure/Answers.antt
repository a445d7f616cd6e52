use Rattle.var_layout.proofs.Words.{ap, sym, ◌∙◌, refl, arith, sum_by, take, Var, record_share, capped, nat_tests}
use Rattle.var_layout.proofs.Capping.{capped_sum_more}
use Rattle.var_layout.proofs.Searches.{lies_in}
use Rattle.var_layout.proofs.Soundness.{stops_at, goes_on_at}
use Rattle.var_layout.proofs.bounds.measure.Goals as goal

pub loop-k-init : goal.loop-k-init
loop-k-init c = record { left = refl; before = omega arith }

pub returns-then-not-keeps_bound : goal.returns-then-not-keeps_bound
returns-then-not-keeps_bound c =
    let header = c.args.header.now in
    grind (arith, nat_tests, lies_in header, stops_at header header.vars c.loop-k.k c.var-item.result, c.as_slice-var-items.ensures, c.var-item.is, c.keeps_bound.ensures, c.loop-k.invariant.before, c.if-not-keeps_bound.true, c.loop-k.invariant.left)

pub loop-k-preserved : goal.loop-k-preserved
loop-k-preserved c =
    let header = c.args.header.now in
    let item = c.var-item.result in
    let lies = lies_in header _ c.loop-k.k item c.as_slice-var-items.ensures (omega arith) c.var-item.is in
    let keeps = sym (c.keeps_bound.ensures (sum_by (λ v. record_share header v) (take c.loop-k.k header.vars)) c.loop-k.invariant.before) ∙ c.if-not-keeps_bound.false in
    record {
      left = sym (goes_on_at header header.vars c.loop-k.k item lies.within lies.there keeps) ∙ c.loop-k.invariant.left;
      before =
          c.sum-before.ensures
          ∙ capped_sum_more (λ v. record_share header v) header.vars c.loop-k.k item 0 c.loop-k.before c.record_share.result lies.within
          (c.loop-k.invariant.before ∙ omega arith) (c.record_share.ensures ∙ ap (λ (v : Var). capped (record_share header v)) lies.there)
          ∙ omega arith;
    }
