-- The runs of a record, and those of records that touch.
use Rattle.vara_extents.proofs.Words.{length, ap, arith, size_most, size_of, product, nat_tests}
use Rattle.vara_extents.proofs.RowSteps.{inner_small, has_record_dimension, same_rests, record_kept, record_merged}
use Rattle.vara_extents.proofs.runs.record_run.Goals as goal

pub returns-in_default : goal.returns-in_default
returns-in_default c = absurd (omega (arith, has_record_dimension c.args.header.now c.args.var.now c.requires.record_variable, ap length c.as_slice.ensures, c.in_default.len_below))

pub inner_run-inner-requires : goal.inner_run-inner-requires
inner_run-inner-requires c =
    let counts = ap product c.as_slice-2.ensures in
    grind (arith, nat_tests, inner_small c.as_slice-2.result.now 0 c.in-len1-up-as_slice.len_at_least, same_rests c.as_slice-2.result.now c.as_slice.result.now, same_rests c.as_slice-3.result.now c.as_slice.result.now, c.requires.some, c.requires.small, c.as_slice.ensures, c.as_slice-2.ensures, c.requires.counts, c.as_slice-3.ensures, c.requires.strides)

pub overflow_mul-touching : goal.overflow_mul-touching
overflow_mul-touching c =
    let counts = ap product c.as_slice-2.ensures in
    grind (arith, nat_tests, inner_small c.as_slice-2.result.now 0 c.in-len1-up-as_slice.len_at_least, size_most c.args.var.now.kind, c.requires.some, c.requires.small, c.inner_run-inner.ensures.runs, c.size_of.ensures)

pub returns-then-touching : goal.returns-then-touching
returns-then-touching c =
    let run = c.inner_run-inner.result.elements in
    grind (arith, nat_tests, record_merged c.args.header.now c.args.var.now c.args.region.now run c.requires.record_variable, c.as_slice-2.ensures, c.as_slice.ensures, c.requires.starts, c.as_slice-3.ensures, c.inner_run-inner.ensures.runs, c.requires.some, c.inner_run-inner.ensures.whole, c.if-inner.true, c.requires.recsize, c.if-touching.true, c.size_of.ensures, c.if-stride-eq1.true)

pub returns-else-inner : goal.returns-else-inner
returns-else-inner c =
    record_kept c.args.header.now c.args.var.now c.args.region.now c.inner_run-inner.result.elements c.requires.record_variable (omega (arith, ap length c.as_slice.ensures, c.in-len1-up.len_at_least))
    c.requires.starts (omega (arith, ap length c.as_slice-2.ensures, c.in-len1-up-as_slice.len_at_least)) (omega (arith, ap length c.as_slice-3.ensures, c.in-len1-up-as_slice-2.len_at_least))
    (rw (c.as_slice.ensures, c.as_slice-2.ensures, c.as_slice-3.ensures) at c.inner_run-inner.ensures.runs)
