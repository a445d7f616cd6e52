use Rattle.generated_run.proofs.Words.{arith, sound_end}
use Rattle.generated_run.proofs.summary.push_file.Goals as goal

pub end_of-requires-clause-below : goal.end_of-requires-clause-below
end_of-requires-clause-below c = sound_end c.args.header.now c.args.header.now.records c.requires (omega arith)
