use Rattle.printed_text.proofs.Cited.{◌+◌, get_or, refl, sym, arith, zip, length-zip, get_or_default_zero, rank_lines}
use Rattle.printed_text.proofs.WordLaws.{pair_at, pair_pushed, pairs_pushed}
use Rattle.printed_text.proofs.runs.push_ranks.Goals as goal

pub loop-rank-preserved : goal.loop-rank-preserved
loop-rank-preserved c =
    let n = c.loop-rank.rank in
    let calls = c.args.calls.now in
    let answers = c.as_slice-answers.result.now in
    let pending = c.as_slice-pending.result.now in
    let own = c.index-calls-rank in
    let answer = c.index-answers-rank in
    let left = get_or pending n 0 in
    pair_pushed (rank_lines c.args.names.now) c.args.out.now.items c.loop-rank.out.items c.push_rank.new.out.items (zip calls answers) pending n (n + 1) (own.result, answer.result) left
    (omega (arith, length-zip calls answers)) (omega arith) (pair_at calls answers n own.result answer.result (omega arith) (omega arith) own.is answer.is)
    (sym (get_or_default_zero pending n left (omega arith))) refl c.loop-rank.invariant c.in_ok-push_rank.ensures

pub returns : goal.returns
returns c =
    let calls = c.args.calls.now in
    let answers = c.as_slice-answers.result.now in
    let pending = c.as_slice-pending.result.now in
    rw (c.as_slice-answers.ensures, c.as_slice-pending.ensures) at
    (pairs_pushed (rank_lines c.args.names.now) c.args.out.now.items c.loop-rank.out.items (zip calls answers) pending c.loop-rank.rank (omega (arith, length-zip calls answers)) c.loop-rank.invariant)
