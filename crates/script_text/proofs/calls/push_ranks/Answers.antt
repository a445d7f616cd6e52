use Rattle.script_text.proofs.Words.{ℕ, List, arith, flat_map, Call, shown_call, nat_tests}
use Rattle.script_text.proofs.PrintingLaws.{rank_pushed, ranks_pushed}
use Rattle.script_text.proofs.calls.push_ranks.Goals as goal

pub loop-rank-preserved : goal.loop-rank-preserved
loop-rank-preserved c =
    let pushed = rw c.as_slice.ensures at c.in_ok-push_calls.ensures in
    rank_pushed (λ (p : ℕ × List Call). flat_map (shown_call p.0) p.1) c.args.out.now.items c.loop-rank.out.items c.push_calls.new.out.items c.args.ranks.now
    c.loop-rank.rank c.index-ranks-rank.result (omega arith) c.index-ranks-rank.is c.loop-rank.invariant pushed

pub returns : goal.returns
returns c = grind (arith, nat_tests, ranks_pushed, c.loop-rank.invariant)
