use Rattle.redef_mover.proofs.Words.{◌<◌, length, get_or, arith, get_or_default, NumberedVar, fixed_var}
use Rattle.redef_mover.proofs.Places.{fixed_next, fixed_placing, none_so_far, whole_so_far}
use Rattle.redef_mover.proofs.new_begins.place_fixed.Goals as goal

pub loop-var-init : goal.loop-var-init
loop-var-init c = record { small = c.requires; placed = none_so_far (λ header n. fixed_placing header) fixed_var c.args.order.now c.args.first c.args.places.now }

pub loop-var-preserved : goal.loop-var-preserved
loop-var-preserved c =
    let order = c.args.order.now in
    let k = c.loop-var.var-index in
    let empty : NumberedVar = record { number = 0; begin = 0; len = 0 } in
    let item = get_or order k empty in
    let within : k < length order = omega arith in
    record {
      small = omega (arith, c.sum-front.ensures);
      placed = fixed_next order c.args.first k c.args.places.now c.loop-var.places c.push.new.self c.loop-var.front c.begin_at-begin.result c.sum-front.result
          item within (get_or_default order k empty item within) c.begin_at-begin.ensures c.sum-front.ensures c.in_ok-push.ensures.ok c.loop-var.invariant.placed;
    }

pub returns-clause-placed : goal.returns-clause-placed
returns-clause-placed c =
    whole_so_far (λ header n. fixed_placing header) fixed_var c.args.order.now c.args.first c.args.places.now c.loop-var.var-index c.loop-var.places c.loop-var.front (omega arith)
    c.loop-var.invariant.placed
