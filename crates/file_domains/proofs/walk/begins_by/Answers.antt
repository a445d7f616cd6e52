-- The half that was tested goes with its extent.
use Rattle.file_domains.proofs.Words.{◌+◌, ◌-◌, ◌/◌, arith}
use Rattle.file_domains.proofs.CoverParts.{half_front, half_left}
use Rattle.file_domains.proofs.walk.begins_by.Goals as goal

pub halves-preserved-then-cover-middle : goal.halves-preserved-then-cover-middle
halves-preserved-then-cover-middle c = record {
  in_order = omega arith;
  bound = c.halves.invariant.bound;
  before = λ i d l. half_front c.args.cover.now c.args.place (c.halves.low + (c.halves.high - c.halves.low) / 2) i (record { at = 0; len = 0 }) d c.requires
      (omega arith) c.if-cover-middle.true (omega arith);
  after = c.halves.invariant.after;
}

pub halves-preserved : goal.halves-preserved
halves-preserved c = record {
  in_order = omega arith;
  bound = omega arith;
  before = c.halves.invariant.before;
  after = λ i d l m. half_left c.args.cover.now c.args.place (c.halves.low + (c.halves.high - c.halves.low) / 2) i (record { at = 0; len = 0 }) d c.requires
      m c.if-cover-middle.false l;
}
