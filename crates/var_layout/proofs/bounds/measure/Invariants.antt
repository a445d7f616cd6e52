use Rattle.var_layout.proofs.Words.{◌≡◌, take, drop, sum_by, record_share, measure, past_bound, capped}
use Rattle.var_layout.proofs.bounds.measure.Given as goal

abbrev pub invariant-loop-k : goal.invariant-loop-k
invariant-loop-k l = record {
  left : past_bound l.header (sum_by (λ v. record_share l.header v) (take l.k l.header.vars)) l.k (drop l.k l.header.vars) ≡ measure l.header;
  before : l.before ≡ capped (sum_by (λ v. record_share l.header v) (take l.k l.header.vars));
}
