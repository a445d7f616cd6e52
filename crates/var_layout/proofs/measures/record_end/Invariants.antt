use Rattle.var_layout.proofs.Words.{◌≡◌, map, take, max, greatest, capped, first_end}
use Rattle.var_layout.proofs.measures.record_end.Given as goal

abbrev pub invariant-loop-var : goal.invariant-loop-var
invariant-loop-var l = l.end ≡ capped (max 0 (greatest (map (λ v. first_end l.header v) (take l.var-index l.header.vars))))
