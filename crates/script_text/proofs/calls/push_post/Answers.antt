use Rattle.script_text.proofs.Words.{append_assoc}
use Rattle.script_text.proofs.calls.push_post.Goals as goal

pub returns : goal.returns
returns c = rw (c.in_ok-push_access.ensures, c.in_ok-push_numbered.ensures, c.from.ensures) (simp append_assoc)
