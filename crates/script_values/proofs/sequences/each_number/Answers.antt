use Rattle.std.proofs.Common.{arith}
use Rattle.std.proofs.lemmas.Grind.{common_steps}
use Rattle.std.proofs.lemmas.Int.{to_z-of_z}
use Rattle.std.proofs.lemmas.List.FromFn.{length-map-range_with_len}
use Rattle.script_values.proofs.RangeLaws.{map_range_push}
use Rattle.script_values.proofs.sequences.each_number.Goals as goal

pub loop-k-preserved : goal.loop-k-preserved
loop-k-preserved c = grind (arith, common_steps, to_z-of_z, map_range_push)

pub returns-clause-count : goal.returns-clause-count
returns-clause-count c = grind (arith, common_steps, length-map-range_with_len)
