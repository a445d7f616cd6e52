-- A row, one dimension at a time.
use Rattle.vara_extents.proofs.Words.{◌∙◌, refl, arith, rules, nat_tests}
use Rattle.vara_extents.proofs.RowSteps.{row_step, no_counts}
use Rattle.vara_extents.proofs.runs.+row.Goals as goal

pub returns-in_default-counts : goal.returns-in_default-counts
returns-in_default-counts t c = grind (arith, nat_tests, no_counts, c.requires.valid)

pub overflow_mul-index : goal.overflow_mul-index
overflow_mul-index t c =
    let step = row_step c.args.header.now c.args.ids.now c.args.starts.now c.args.counts.now c.args.strides.now c.args.element.number c.args.element.before c.element_count-inner.result _
    c.in-len1-up.len_at_least c.in-len1-up-starts.len_at_least c.in-len1-up-counts.len_at_least c.in-len1-up-strides.len_at_least c.requires.valid c.requires.number c.requires.small
    c.element_count-inner.ensures refl in
    omega (arith, step.rows, c.requires.below)

pub overflow_add-index : goal.overflow_add-index
overflow_add-index t c =
    let step = row_step c.args.header.now c.args.ids.now c.args.starts.now c.args.counts.now c.args.strides.now c.args.element.number c.args.element.before c.element_count-inner.result _
    c.in-len1-up.len_at_least c.in-len1-up-starts.len_at_least c.in-len1-up-counts.len_at_least c.in-len1-up-strides.len_at_least c.requires.valid c.requires.number c.requires.small
    c.element_count-inner.ensures refl in
    omega (arith, step.rows, c.requires.below)

pub overflow_mul-element : goal.overflow_mul-element
overflow_mul-element t c =
    let step = row_step c.args.header.now c.args.ids.now c.args.starts.now c.args.counts.now c.args.strides.now c.args.element.number c.args.element.before c.element_count-inner.result c.length_of.result
    c.in-len1-up.len_at_least c.in-len1-up-starts.len_at_least c.in-len1-up-counts.len_at_least c.in-len1-up-strides.len_at_least c.requires.valid c.requires.number c.requires.small
    c.element_count-inner.ensures c.length_of.ensures in
    omega (arith, step.rows, c.requires.below)

pub overflow_add-element : goal.overflow_add-element
overflow_add-element t c =
    let step = row_step c.args.header.now c.args.ids.now c.args.starts.now c.args.counts.now c.args.strides.now c.args.element.number c.args.element.before c.element_count-inner.result c.length_of.result
    c.in-len1-up.len_at_least c.in-len1-up-starts.len_at_least c.in-len1-up-counts.len_at_least c.in-len1-up-strides.len_at_least c.requires.valid c.requires.number c.requires.small
    c.element_count-inner.ensures c.length_of.ensures in
    omega (arith, step.rows, c.requires.below)

pub row-requires : goal.row-requires
row-requires t c =
    let step = row_step c.args.header.now c.args.ids.now c.args.starts.now c.args.counts.now c.args.strides.now c.args.element.number c.args.element.before c.element_count-inner.result c.length_of.result
    c.in-len1-up.len_at_least c.in-len1-up-starts.len_at_least c.in-len1-up-counts.len_at_least c.in-len1-up-strides.len_at_least c.requires.valid c.requires.number c.requires.small
    c.element_count-inner.ensures c.length_of.ensures in
    (search rules, (step.valid, (step.number_low, (step.small, omega (arith, step.whole, c.requires.below)))))

pub returns : goal.returns
returns t c =
    let step = row_step c.args.header.now c.args.ids.now c.args.starts.now c.args.counts.now c.args.strides.now c.args.element.number c.args.element.before c.element_count-inner.result c.length_of.result
    c.in-len1-up.len_at_least c.in-len1-up-starts.len_at_least c.in-len1-up-counts.len_at_least c.in-len1-up-strides.len_at_least c.requires.valid c.requires.number c.requires.small
    c.element_count-inner.ensures c.length_of.ensures in
    c.row.ensures ∙ step.whole
