use Rattle.generated_run.proofs.Words.{◌+◌, List, map, sum, refl, arith, zip, length-zip, Call, Answer, call_done}
use Rattle.printed_text.proofs.WordLaws.{pair_at}
use Rattle.generated_run.proofs.SumLaws.{next_summed, all_summed}
use Rattle.generated_run.proofs.elements.elements_done.Goals as goal

pub loop-rank-preserved : goal.loop-rank-preserved
loop-rank-preserved c =
    let calls = c.args.calls.now in
    let answers = c.args.answers.now in
    let n = c.loop-rank.rank in
    let call = c.index-calls-rank in
    let answer = c.index-answers-rank in
    let answered : List Call × List Answer = (call.result, answer.result) in
    let own = rw (c.as_slice.ensures, c.as_slice-in-loop-rank.ensures) at c.in_ok-own.ensures in
    next_summed (λ p. sum (map (λ q. call_done c.args.direction p.0 q) (zip p.0 p.1))) c.loop-rank.total c.in_ok-own.own c.in_ok-total.total (zip calls answers) n (n + 1) answered
    (omega (arith, length-zip calls answers)) (pair_at calls answers n call.result answer.result (omega arith) (omega arith) call.is answer.is) refl
    c.loop-rank.invariant own c.in_ok-total.ensures

pub returns : goal.returns
returns c =
    let calls = c.args.calls.now in
    let answers = c.args.answers.now in
    all_summed (λ p. sum (map (λ q. call_done c.args.direction p.0 q) (zip p.0 p.1))) c.loop-rank.total (zip calls answers) c.loop-rank.rank (omega (arith, length-zip calls answers))
    c.loop-rank.invariant
