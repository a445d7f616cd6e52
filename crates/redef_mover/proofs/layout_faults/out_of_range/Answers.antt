use Rattle.redef_mover.proofs.Words.{List, length, get_or, refl, ap, ◌∙◌, arith, Var, nat_tests}
use Rattle.redef_mover.proofs.Ranges.{ranged_next, ranged_whole}
use Rattle.redef_mover.proofs.layout_faults.out_of_range.Goals as goal

pub loop-var-init : goal.loop-var-init
loop-var-init c = record { told = c.in_ok-bad.ensures; sum = refl }

pub loop-var-preserved : goal.loop-var-preserved
loop-var-preserved c =
    let header = c.args.header.now in
    let k = c.loop-var.var-index in
    let item = c.var-item.result in
    let same = ap (λ (vs : List Var). length vs) c.as_slice-var-items.ensures in
    let there = c.var-item.is ∙ ap (λ (vs : List Var). get_or vs k item) c.as_slice-var-items.ensures in
    ranged_next header k item c.loop-var.bad c.push.new.self c.is_out_of_range.result c.loop-var.before c.sum-before.result c.record_share.result (omega arith) there
    c.is_out_of_range.ensures c.in_ok-push.ensures.ok c.record_share.ensures c.sum-before.ensures c.loop-var.invariant

pub returns : goal.returns
returns c =
    grind (arith, nat_tests, ranged_whole c.args.header.now c.loop-var.var-index c.loop-var.bad c.loop-var.before, c.as_slice-var-items.ensures, c.loop-var.invariant)
