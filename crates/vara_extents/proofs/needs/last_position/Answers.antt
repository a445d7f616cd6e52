use Rattle.vara_extents.proofs.Words.{◌-◌, ◌*◌, ℕ, List, ap, ◌∙◌, zip, arith, sum_by, take_all, length-zip, capped, nat_tests}
use Rattle.vara_extents.proofs.CountLaws.{one_farther}
use Rattle.vara_extents.proofs.needs.last_position.Goals as goal

pub loop-k-preserved : goal.loop-k-preserved
loop-k-preserved c =
    let imap = c.args.imap.now in
    grind (arith, nat_tests, one_farther c.args.counts.now imap c.loop-k.k c.loop-k.position c.product.result c.loop-k-test.true c.requires, c.sum-position.ensures, c.loop-k.invariant, c.product.ensures, c.saturating_sub.ensures)

pub returns : goal.returns
returns c =
    let long = length-zip c.args.counts.now c.args.imap.now in
    c.loop-k.invariant ∙ ap (λ (l : List (ℕ × ℕ)). capped (sum_by (λ (p : ℕ × ℕ). (p.0 - 1) * p.1) l)) (take_all c.loop-k.k (zip c.args.counts.now c.args.imap.now) (omega arith))
