use Rattle.redef_mover.proofs.Words.{NumberedVar, Old, record_var, records_at, refilled, arith, nat_tests}
use Rattle.redef_mover.proofs.Sorting.{sorted_map}
use Rattle.redef_mover.proofs.new_begins.record_order.Goals as goal

pub returns : goal.returns
returns c =
    let header = c.args.header.now in
    let old = records_at header c.args.n Old in
    let key = λ (v : NumberedVar). v.begin in
    grind (arith, nat_tests, refilled c.push_records.new.order c.sort_by_begin.new.vars, sorted_map key (record_var header) old, c.as_mut_slice.ensures.seen, c.sort_by_begin.auto.vars, c.in_ok-push_records.ensures, c.new-order.ensures, c.in_ok-sort_by_begin.ensures)
