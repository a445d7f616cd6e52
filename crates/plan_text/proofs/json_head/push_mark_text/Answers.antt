use Rattle.plan_text.proofs.Cited.{mark_word}
use Rattle.plan_text.proofs.PlainLaws.{mark_plain, text_pushed}
use Rattle.plan_text.proofs.json_head.push_mark_text.Goals as goal

pub returns : goal.returns
returns c =
    text_pushed c.args.out.now.items _ _ _ (mark_word c.args.mark) (mark_plain c.args.mark)
    c.in_ok-push.ensures.items c.in_ok-push_mark.ensures c.in_ok-push-2.ensures.items
