use Rattle.redef_mover.proofs.Words.{ℕ, ◌+◌, ◌<◌, length, get_or, ap, ◌∙◌, arith, get_or_default, capped, NumberedVar, record_var}
use Rattle.redef_mover.proofs.Places.{none_so_far, old_next, old_placing, whole_so_far}
use Rattle.redef_mover.proofs.new_begins.place_old_records.Goals as goal

pub loop-var-init : goal.loop-var-init
loop-var-init c = none_so_far (λ header m. old_placing header m c.args.least) record_var c.args.order.now c.args.first c.args.places.now

pub loop-var-preserved : goal.loop-var-preserved
loop-var-preserved c =
    let order = c.args.order.now in
    let k = c.loop-var.var-index in
    let empty : NumberedVar = record { number = 0; begin = 0; len = 0 } in
    let item = get_or order k empty in
    let within : k < length order = omega arith in
    old_next order c.args.first c.args.least k c.args.places.now c.loop-var.places c.push.new.self c.loop-var.end c.sum-begin.result c.sum-end.result
    item within (get_or_default order k empty item within)
    (c.sum-begin.ensures ∙ ap (λ (n : ℕ). capped (c.args.first + n)) c.saturating_sub.ensures) c.sum-end.ensures c.in_ok-push.ensures.ok c.loop-var.invariant

pub returns : goal.returns
returns c =
    whole_so_far (λ header m. old_placing header m c.args.least) record_var c.args.order.now c.args.first c.args.places.now c.loop-var.var-index c.loop-var.places c.loop-var.end (omega arith)
    c.loop-var.invariant
