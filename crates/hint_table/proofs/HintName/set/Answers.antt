use Rattle.std.proofs.Common.{ℕ, ap}
use Rattle.hint_table.proofs.HintName.set.Goals as goal

pub returns-in-RdBuffer : goal.returns-in-RdBuffer
returns-in-RdBuffer c = rw c.in-RdBuffer.is (ap (λ (n : ℕ). record c.args.hints.now { rd_buffer = n }) c.from-size.ensures)
