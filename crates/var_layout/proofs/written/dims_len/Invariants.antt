use Rattle.var_layout.proofs.Words.{◌≡◌, ◌+◌, length, take, sum_by, byte_len, count_width, dimension, capped}
use Rattle.var_layout.proofs.written.dims_len.Given as goal

abbrev pub invariant-loop-dim : goal.invariant-loop-dim
invariant-loop-dim l = l.len ≡ capped (4 + byte_len (count_width l.header.version) + sum_by (λ x. length (dimension l.header.version x)) (take l.dim-index l.header.dims))
