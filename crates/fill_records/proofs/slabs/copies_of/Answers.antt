-- Copies of a value are its bytes over and over.
use Rattle.fill_records.proofs.Words.{◌+◌}
use Rattle.fill_records.proofs.RepeatedLaws.{all_copies}
use Rattle.fill_records.proofs.slabs.copies_of.Goals as goal

pub returns-clause-bytes : goal.returns-clause-bytes
returns-clause-bytes c = all_copies c.args.value.now c.in_ok-repeat.field-0.items (c.div_ceil.result + 1) c.in_ok-repeat.ensures.items
