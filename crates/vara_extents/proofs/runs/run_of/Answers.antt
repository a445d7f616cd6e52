use Rattle.vara_extents.proofs.Words.{arith, nat_tests}
use Rattle.vara_extents.proofs.RunLaws.{sized, same_runs}
use Rattle.vara_extents.proofs.RowSteps.{fixed_is}
use Rattle.vara_extents.proofs.runs.run_of.Goals as goal

pub returns : goal.returns
returns c = grind (arith, nat_tests, sized, same_runs, fixed_is, c.is_record.ensures, c.if-is_record.false, c.requires.starts, c.as_slice-ids.ensures, c.as_slice-counts.ensures, c.as_slice.ensures, c.inner_run.ensures.runs)
