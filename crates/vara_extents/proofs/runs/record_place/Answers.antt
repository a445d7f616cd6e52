-- The begin, the records before, and the bytes of the rows before in the record.
use Rattle.vara_extents.proofs.Words.{◌≡◌, ◌+◌, ◌*◌, ◌/◌, get_or, length, ap, arith, row_below_bytes, place, index_of, nat_tests}
use Rattle.vara_extents.proofs.RowSteps.{RecordStep, record_step, has_record_dimension, has_record_entry}
use Rattle.vara_extents.proofs.runs.record_place.Goals as goal

pub returns-in_default : goal.returns-in_default
returns-in_default c = absurd (omega (arith, has_record_dimension c.args.header.now c.args.var.now c.requires.record_variable, ap length c.as_slice.ensures, c.in_default.len_below))

pub returns-in_default-as_slice : goal.returns-in_default-as_slice
returns-in_default-as_slice c = grind (arith, nat_tests, has_record_entry, c.requires.valid, c.as_slice-2.ensures)

pub returns-in_default-as_slice-2 : goal.returns-in_default-as_slice-2
returns-in_default-as_slice-2 c = grind (arith, nat_tests, has_record_entry, c.requires.valid, c.as_slice-3.ensures)

pub returns-in_default-as_slice-3 : goal.returns-in_default-as_slice-3
returns-in_default-as_slice-3 c = grind (arith, nat_tests, has_record_entry, c.requires.valid, c.as_slice-4.ensures)

step : (c : goal.After-row_known-2-1) → RecordStep c.args.header.now c.args.var.now c.args.region.now c.args.number c.element_count-inner.result c.args.recsize c.as_slice.result.now c.as_slice-2.result.now c.as_slice-3.result.now
    c.as_slice-4.result.now
step c =
    record_step c.args.header.now c.args.var.now c.args.region.now c.args.number _ _ _ _ _ _ c.requires.recsize c.as_slice.ensures c.as_slice-2.ensures c.as_slice-3.ensures c.as_slice-4.ensures
    c.requires.record_variable c.requires.wide c.in-len1-up.len_at_least c.in-len1-up-as_slice.len_at_least c.in-len1-up-as_slice-2.len_at_least c.in-len1-up-as_slice-3.len_at_least
    c.requires.valid c.requires.number c.requires.small c.element_count-inner.ensures

pub overflow_mul-record : goal.overflow_mul-record
overflow_mul-record c = omega (arith, (step c).whole, (step c).record_low, c.requires.below)

pub overflow_add-record : goal.overflow_add-record
overflow_add-record c = omega (arith, (step c).whole, (step c).record_low, c.requires.below)

pub row-rows-requires-clause-valid : goal.row-rows-requires-clause-valid
row-rows-requires-clause-valid c = (step c).valid

pub row-rows-requires-clause-number : goal.row-rows-requires-clause-number
row-rows-requires-clause-number c = (step c).number_low

pub row-rows-requires-clause-small : goal.row-rows-requires-clause-small
row-rows-requires-clause-small c = (step c).small

pub row-rows-requires-clause-below : goal.row-rows-requires-clause-below
row-rows-requires-clause-below c = grind (arith, nat_tests, step, row_below_bytes, c.requires.below)

-- the step with the row that was found
row_step : (c : goal.After-row-rows) → RecordStep c.args.header.now c.args.var.now c.args.region.now c.args.number c.element_count-inner.result c.args.recsize c.as_slice.result.now c.as_slice-2.result.now c.as_slice-3.result.now
    c.as_slice-4.result.now
row_step c =
    record_step c.args.header.now c.args.var.now c.args.region.now c.args.number _ _ _ _ _ _ c.requires.recsize c.as_slice.ensures c.as_slice-2.ensures c.as_slice-3.ensures c.as_slice-4.ensures
    c.requires.record_variable c.requires.wide c.in-len1-up.len_at_least c.in-len1-up-as_slice.len_at_least c.in-len1-up-as_slice-2.len_at_least c.in-len1-up-as_slice-3.len_at_least
    c.requires.valid c.requires.number c.requires.small c.element_count-inner.ensures

pub overflow_mul-result : goal.overflow_mul-result
overflow_mul-result c = omega (arith, (row_step c).whole, c.requires.below)

pub overflow_add-result : goal.overflow_add-result
overflow_add-result c = omega (arith, (row_step c).whole, c.requires.below)

-- the sum of which the bytes of a row are the last part
sum_is : (c : goal.After-size_of) → c.args.var.now.begin + (get_or c.as_slice-2.result.now 0 0 + c.args.number / c.element_count-inner.result * get_or c.as_slice-4.result.now 0 0) * c.args.recsize
    + c.row-rows.result * c.size_of.result ≡ place c.args.header.now c.args.var.now (index_of c.args.region.now c.args.number)
sum_is c =
    let step = record_step c.args.header.now c.args.var.now c.args.region.now c.args.number _ _ _ _ _ _ c.requires.recsize c.as_slice.ensures c.as_slice-2.ensures c.as_slice-3.ensures c.as_slice-4.ensures
    c.requires.record_variable c.requires.wide c.in-len1-up.len_at_least c.in-len1-up-as_slice.len_at_least c.in-len1-up-as_slice-2.len_at_least c.in-len1-up-as_slice-3.len_at_least
    c.requires.valid c.requires.number c.requires.small c.element_count-inner.ensures in
    grind (arith, nat_tests, c.row-rows.ensures, c.size_of.ensures)

pub overflow_mul-result-2 : goal.overflow_mul-result-2
overflow_mul-result-2 c = omega (arith, sum_is c, c.requires.below)

pub overflow_add-result-2 : goal.overflow_add-result-2
overflow_add-result-2 c = omega (arith, sum_is c, c.requires.below)

pub returns : goal.returns
returns c = sum_is c
