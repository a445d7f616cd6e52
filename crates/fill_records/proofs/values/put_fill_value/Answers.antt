-- The first attribute that has the fill value.
use Rattle.fill_records.proofs.Words.{◌∙◌, sym, is_fill_value, arith, nat_tests}
use Rattle.fill_records.proofs.Searches.{find_stops, find_goes_on}
use Rattle.fill_records.proofs.values.put_fill_value.Goals as goal

pub returns-then-is_fill_value : goal.returns-then-is_fill_value
returns-then-is_fill_value c =
    let own = find_stops (is_fill_value c.args.var.now.kind) c.as_slice-attr-items.result.now c.loop-attr.attr-index c.attr-item.result
    c.loop-attr-test.true c.attr-item.is c.loop-attr.invariant.none (sym c.is_fill_value.ensures ∙ c.if-is_fill_value.true) in
    grind (arith, nat_tests, c.copy_from_slice.ensures.after, c.as_slice.ensures, c.as_slice-attr-items.ensures)

pub loop-attr-preserved : goal.loop-attr-preserved
loop-attr-preserved c = record {
  none = grind (arith, nat_tests, find_goes_on, c.loop-attr-test.true, c.attr-item.is, c.loop-attr.invariant.none, c.is_fill_value.ensures, c.if-is_fill_value.false);
  long = c.loop-attr.invariant.long;
}
