use Rattle.var_layout.proofs.Words.{err_from_is_err_and, arith, nat_tests}
use Rattle.var_layout.proofs.CreatedFiles.{fault_is, is_second, is_third, is_none_of, first_record_is, no_far}
use Rattle.var_layout.proofs.begins.check_layout.Goals as goal

pub returns-in_err-end-clause-fault : goal.returns-in_err-end-clause-fault
returns-in_err-end-clause-fault c =
    let left = err_from_is_err_and c.from_residual-in_err-end.result c.from_residual-in_err-end.ensures.1 in
    grind (arith, nat_tests, is_second, fault_is c.args.header.now c.args.align.now c.args.len c.in_ok-check_sizes.ensures.small.0, c.in_ok-check_sizes.ensures.fault, c.in_err-end.ensures.fault)

pub returns-in_err-check_records-clause-fault : goal.returns-in_err-check_records-clause-fault
returns-in_err-check_records-clause-fault c =
    let left = err_from_is_err_and c.from_residual-in_err-check_records.result c.from_residual-in_err-check_records.ensures.1 in
    grind (arith, nat_tests, is_third, fault_is c.args.header.now c.args.align.now c.args.len c.in_ok-check_sizes.ensures.small.0, c.in_ok-check_sizes.ensures.fault, c.in_ok-end.ensures.fault, c.in_err-check_records.ensures)

pub check_records-requires : goal.check_records-requires
check_records-requires c = grind (arith, nat_tests, first_record_is, c.in_ok-end.ensures.end.0, c.round_up-first.ensures.up)

pub returns-clause-fault : goal.returns-clause-fault
returns-clause-fault c = grind (arith, nat_tests, is_none_of, fault_is, c.in_ok-check_sizes.ensures.fault, c.in_ok-end.ensures.fault, c.in_ok-check_records.ensures)

pub returns-clause-fits : goal.returns-clause-fits
returns-clause-fits c = record {
  length = c.in_ok-check_sizes.ensures.small.0;
  small = c.in_ok-check_sizes.ensures.small.1;
  records = first_record_is c.args.header.now c.args.align.now c.args.len c.in_ok-end.end c.round_up-first.result c.in_ok-end.ensures.end.0 c.round_up-first.ensures.up;
  fixed_fit = no_far _ _ c.in_ok-end.ensures.fault;
  records_fit = no_far _ _ c.in_ok-check_records.ensures;
}
