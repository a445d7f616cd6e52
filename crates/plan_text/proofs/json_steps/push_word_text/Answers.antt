use Rattle.plan_text.proofs.Cited.{slice_get, word_in}
use Rattle.plan_text.proofs.PlainLaws.{text_pushed, word_plain}
use Rattle.plan_text.proofs.json_steps.push_word_text.Goals as goal

pub returns : goal.returns
returns c =
    let calls = slice_get c.args.script.now.calls c.args.caller.rank in
    text_pushed c.args.out.now.items _ _ _ (word_in calls c.args.caller.call) (word_plain calls c.args.caller.call)
    c.in_ok-push.ensures.items c.in_ok-push_word_of.ensures c.in_ok-push-2.ensures.items
