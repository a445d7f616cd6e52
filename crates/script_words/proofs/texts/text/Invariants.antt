use Rattle.script_words.proofs.Cited.{◌≡◌, length, text_from, Between}
use Rattle.script_words.proofs.TextLaws.{with_front}
use Rattle.script_words.proofs.texts.text.Given as goal

abbrev pub invariant-loop-c : goal.invariant-loop-c
invariant-loop-c l = with_front l.value.items (text_from Between l.rest) ≡ text_from Between l.bytes

abbrev pub decreases-loop-c : goal.decreases-loop-c
decreases-loop-c l = length l.rest
