use Rattle.script_text.proofs.Words.{append_assoc}
use Rattle.script_text.proofs.definitions.push_named_var.Goals as goal

pub returns : goal.returns
returns c = rw (c.in_ok-push.ensures.items, c.in_ok-push_names.ensures, c.in_ok-push_var_title.ensures) (simp append_assoc)
