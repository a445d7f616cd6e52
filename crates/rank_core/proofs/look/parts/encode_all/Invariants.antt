use Rattle.rank_core.proofs.Words.{◌≡◌, false, Some, some_unfit}
use Rattle.serial_spec.specs.Looks as looks
use Rattle.rank_core.proofs.look.parts.encode_all.Given as goal

abbrev pub invariant-loop-number : goal.invariant-loop-number
invariant-loop-number l = record {
  bytes : l.bytes.items ≡ looks.values_bytes l.kind (Some l.values) l.before l.number;
  fit : some_unfit l.kind (Some l.values) l.before l.number ≡ false;
}
