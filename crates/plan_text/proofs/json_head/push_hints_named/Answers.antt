use Rattle.plan_text.proofs.Cited.{arith, row_of, HintName, hint_object}
use Rattle.plan_text.proofs.ArrayLaws.{copy_pushed}
use Rattle.plan_text.proofs.json_head.push_hints_named.Goals as goal

pub loop-number-preserved : goal.loop-number-preserved
loop-number-preserved c =
    copy_pushed (λ (name : HintName). hint_object c.args.script.now (row_of name)) c.push.new.self.items c.loop-number.out.items c.push_comma.new.out.items c.push_hint.new.out.items c.args.names.now c.loop-number.number _
    (omega arith) c.loop-number.invariant c.in_ok-push_comma.ensures c.in_ok-push_hint.ensures
