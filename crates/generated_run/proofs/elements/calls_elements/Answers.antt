use Rattle.generated_run.proofs.Words.{◌+◌, refl, arith, zip, length-zip, Call, Answer, call_done}
use Rattle.printed_text.proofs.WordLaws.{pair_at}
use Rattle.generated_run.proofs.SumLaws.{next_summed, all_summed}
use Rattle.generated_run.proofs.elements.calls_elements.Goals as goal

pub loop-number-preserved : goal.loop-number-preserved
loop-number-preserved c =
    let calls = c.args.calls.now in
    let answers = c.args.answers.now in
    let n = c.loop-number.number in
    let call = c.index-calls-number in
    let answer = c.index-answers-number in
    let answered : Call × Answer = (call.result, answer.result) in
    next_summed (λ p. call_done c.args.direction c.args.posts.now p) c.loop-number.total c.in_ok-own.own c.in_ok-total.total (zip calls answers) n (n + 1) answered
    (omega (arith, length-zip calls answers)) (pair_at calls answers n call.result answer.result (omega arith) (omega arith) call.is answer.is) refl
    c.loop-number.invariant c.in_ok-own.ensures c.in_ok-total.ensures

pub returns : goal.returns
returns c =
    let calls = c.args.calls.now in
    let answers = c.args.answers.now in
    all_summed (λ p. call_done c.args.direction c.args.posts.now p) c.loop-number.total (zip calls answers) c.loop-number.number (omega (arith, length-zip calls answers)) c.loop-number.invariant
