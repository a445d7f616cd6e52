use Rattle.script_text.proofs.Words.{append_assoc}
use Rattle.script_text.proofs.definitions.push_dim.Goals as goal

pub returns : goal.returns
returns c = rw (c.in_ok-push.ensures.items, c.in_ok-push_length.ensures, c.in_ok-push_word.ensures, c.as_slice.ensures, c.in_ok-push_bytes.ensures) (simp append_assoc)
