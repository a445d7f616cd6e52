use Rattle.dataset_start.proofs.Words.{arith, sound_end, nat_tests}
use Rattle.dataset_start.proofs.Opened.{grown_calls}
use Rattle.dataset_start.proofs.existing.lengthen.Goals as goal

pub end_of-end-requires-clause-below : goal.end_of-end-requires-clause-below
end_of-end-requires-clause-below g c = sound_end c.args.header.now c.args.header.now.records c.requires.sound (omega arith)

pub grow_to-requires-clause-below : goal.grow_to-requires-clause-below
grow_to-requires-clause-below g c κs within = grind (arith, nat_tests, sound_end, c.end_of-end.ensures)

pub returns-clause-bytes : goal.returns-clause-bytes
returns-clause-bytes g c = rw c.end_of-end.ensures at c.grow_to.ensures.bytes

pub returns-clause-lengthened : goal.returns-clause-lengthened
returns-clause-lengthened g c = rw c.end_of-end.ensures at c.grow_to.ensures.grown

pub returns-clause-calls : goal.returns-clause-calls
returns-clause-calls g c = grown_calls c.grow_to.result _ _ _ _ _ _ (g.D.Disk.told c.args.disk.now) c.end_of-end.ensures c.grow_to.ensures.calls
