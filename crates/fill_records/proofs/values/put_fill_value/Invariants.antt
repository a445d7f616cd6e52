-- No attribute so far has the fill value.
use Rattle.fill_records.proofs.Words.{◌≡◌, length, take, None, find, is_fill_value}
use Rattle.fill_records.proofs.values.put_fill_value.Given as goal

abbrev pub invariant-loop-attr : goal.invariant-loop-attr
invariant-loop-attr l = record {
  none : find (is_fill_value l.var.kind) (take l.attr-index l.attr-items) ≡ None;
  long : length l.into ≡ length l.initial.into;
}
