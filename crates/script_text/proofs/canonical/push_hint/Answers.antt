use Rattle.script_text.proofs.Words.{append_assoc}
use Rattle.script_text.proofs.canonical.push_hint.Goals as goal

pub returns : goal.returns
returns c = rw (c.in_ok-push_bytes-2.ensures, c.in_ok-push_value.ensures, c.form.ensures.form, c.get.ensures, c.in_ok-push_word.ensures, c.word.ensures, c.in_ok-push_bytes.ensures) (simp append_assoc)
