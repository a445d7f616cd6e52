use Rattle.generated_run.proofs.Words.{◌≡◌, ℕ, [], map, arith, ap, ◌∙◌, range_with_len, calls_of_rank}
use Rattle.generated_run.proofs.Ranges.{next_item}
use Rattle.generated_run.proofs.calls.made_calls.Goals as goal

pub loop-rank-preserved : goal.loop-rank-preserved
loop-rank-preserved c =
    next_item (λ r. calls_of_rank c.args.seed c.args.size r) [] c.loop-rank.calls c.push.new.self c.loop-rank.rank c.in_ok-rank_calls.field-0
    c.loop-rank.invariant c.in_ok-rank_calls.ensures c.in_ok-push.ensures.ok

pub returns : goal.returns
returns c =
    let whole : c.loop-rank.rank ≡ 8 = omega arith in
    c.loop-rank.invariant ∙ ap (λ (n : ℕ). map (λ r. calls_of_rank c.args.seed c.args.size r) (range_with_len 0 n)) whole
