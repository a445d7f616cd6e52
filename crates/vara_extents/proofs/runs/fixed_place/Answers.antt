-- The begin and the bytes of the rows before.
use Rattle.vara_extents.proofs.Words.{◌≡◌, ◌+◌, ◌*◌, ℕ, ap, ◌∙◌, arith, size_of, product, row_below_bytes, row_of, nat_tests}
use Rattle.vara_extents.proofs.RowSteps.{fixed_valid, fixed_is}
use Rattle.vara_extents.proofs.runs.fixed_place.Goals as goal

pub row-rows-requires-clause-valid : goal.row-rows-requires-clause-valid
row-rows-requires-clause-valid c =
    rw (c.as_slice-ids.ensures, c.as_slice-starts.ensures, c.as_slice-counts.ensures, c.as_slice-strides.ensures)
    (fixed_valid c.args.header.now c.args.var.now _ c.requires.fixed c.requires.valid)

pub row-rows-requires-clause-number : goal.row-rows-requires-clause-number
row-rows-requires-clause-number c = omega (arith, ap product c.as_slice-counts.ensures, c.requires.number)

pub row-rows-requires-clause-small : goal.row-rows-requires-clause-small
row-rows-requires-clause-small c = omega (arith, ap product c.as_slice-counts.ensures, c.requires.small)

pub row-rows-requires-clause-below : goal.row-rows-requires-clause-below
row-rows-requires-clause-below c =
    let is = fixed_is c.args.header.now c.args.var.now c.args.region.now c.args.number c.requires.fixed in
    grind (arith, nat_tests, row_below_bytes, c.as_slice-ids.ensures, c.as_slice-starts.ensures, c.as_slice-counts.ensures, c.as_slice-strides.ensures, c.requires.below)

bytes_are : (c : goal.After-size_of) → c.row-rows.result * c.size_of.result
    ≡ row_of c.args.header.now c.args.var.now.dims c.args.region.now.start c.args.region.now.count c.args.region.now.stride c.args.number * size_of c.args.var.now.kind
bytes_are c =
    grind (arith, nat_tests, c.as_slice-ids.ensures, c.as_slice-starts.ensures, c.as_slice-counts.ensures, c.as_slice-strides.ensures, c.row-rows.ensures, c.size_of.ensures)

pub overflow_mul-result : goal.overflow_mul-result
overflow_mul-result c = omega (arith, bytes_are c, fixed_is c.args.header.now c.args.var.now c.args.region.now c.args.number c.requires.fixed, c.requires.below)

pub overflow_add-result : goal.overflow_add-result
overflow_add-result c = omega (arith, bytes_are c, fixed_is c.args.header.now c.args.var.now c.args.region.now c.args.number c.requires.fixed, c.requires.below)

pub returns : goal.returns
returns c = ap (λ (n : ℕ). c.args.var.now.begin + n) (bytes_are c) ∙ fixed_is c.args.header.now c.args.var.now c.args.region.now c.args.number c.requires.fixed
