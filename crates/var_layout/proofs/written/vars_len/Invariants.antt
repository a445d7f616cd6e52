use Rattle.var_layout.proofs.Words.{◌≡◌, ◌+◌, length, take, sum_by, byte_len, count_width, variable, capped}
use Rattle.var_layout.proofs.written.vars_len.Given as goal

abbrev pub invariant-loop-var : goal.invariant-loop-var
invariant-loop-var l = l.len ≡ capped (4 + byte_len (count_width l.header.version) + sum_by (λ x. length (variable l.header x)) (take l.var-index l.header.vars))
