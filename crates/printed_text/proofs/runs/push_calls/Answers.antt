use Rattle.printed_text.proofs.Cited.{◌+◌, List, ◌++◌, refl, ap, ◌∙◌, arith, Header, Call, call_lines, nat_tests}
use Rattle.printed_text.proofs.WordLaws.{pair_pushed, pairs_pushed}
use Rattle.printed_text.proofs.runs.push_calls.Goals as goal

pub loop-number-preserved : goal.loop-number-preserved
loop-number-preserved c =
    let calls = c.args.calls.now in
    let n = c.loop-number.number in
    let call = c.index-calls-number in
    let answer = c.index-answers-number in
    let pushed =
    c.in_ok-push_call.ensures ∙ ap (λ (d : Header × List Call). c.loop-number.out.items ++ call_lines d.0 d.1 (n, (call.result, answer.result))) c.in_ok-digits.ensures in
    pair_pushed (call_lines c.args.names.now calls) c.args.out.now.items c.loop-number.out.items c.push_call.new.out.items calls c.args.answers.now n (n + 1) call.result answer.result
    (omega arith) (omega arith) call.is answer.is refl c.loop-number.invariant pushed

pub returns : goal.returns
returns c = grind (arith, nat_tests, pairs_pushed, c.loop-number.invariant)
