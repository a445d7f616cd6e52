use Rattle.var_layout.proofs.Words.{◌≡◌, take, sum_by, last_share, record_variables, capped}
use Rattle.var_layout.proofs.record.record_size.Given as goal

abbrev pub invariant-loop-var : goal.invariant-loop-var
invariant-loop-var l = l.size ≡ capped (sum_by (λ v. last_share l.header v) (record_variables l.header (take l.var-index l.header.vars)))
