use Rattle.script_text.proofs.Words.{append_assoc, call_word, call_words, joined_spaced}
use Rattle.script_text.proofs.calls.push_call.Goals as goal

pub returns : goal.returns
returns c = rw (c.in_ok-push-2.ensures.items, c.in_ok-push_call_words.ensures, c.in_ok-push_call_word.ensures, c.in_ok-push.ensures.items, c.in_ok-push_decimal.ensures, joined_spaced (call_word c.args.call.now) (call_words c.args.call.now)) (simp append_assoc)
