use Rattle.script_text.proofs.Words.{append_assoc, append-nil}
use Rattle.script_text.proofs.calls.push_record.Goals as goal

pub returns : goal.returns
returns c = rw (c.in_ok-push_numbered.ensures, c.in_ok-push_word.ensures) (simp (append_assoc, append-nil))
