use Rattle.vara_extents.proofs.Words.{◌≡◌, ◌*◌, ◌-◌, ℕ, take, zip, sum_by, capped}
use Rattle.vara_extents.proofs.needs.last_position.Given as goal

abbrev pub invariant-loop-k : goal.invariant-loop-k
invariant-loop-k l = l.position ≡ capped (sum_by (λ (p : ℕ × ℕ). (p.0 - 1) * p.1) (take l.k (zip l.counts l.imap)))
