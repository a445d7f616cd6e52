use Rattle.var_layout.proofs.Words.{◌≡◌, map, take, max, header_len, greatest, end_of_var, capped}
use Rattle.var_layout.proofs.measures.fixed_end.Given as goal

abbrev pub invariant-loop-var : goal.invariant-loop-var
invariant-loop-var l = l.end ≡ capped (max (header_len l.header) (greatest (map (λ v. end_of_var l.header 0 v) (take l.var-index l.header.vars))))
