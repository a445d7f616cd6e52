use Rattle.serial_spec.proofs.SaidLaws.{puts_said, cells_said}
use Rattle.serial_spec.proofs.step_laws.puts_say.Goals as goal

pub returns : goal.returns
returns c = record { puts = puts_said; cells = λ file cells x. cells_said cells file x }
