use Rattle.script_text.proofs.Words.{append_assoc}
use Rattle.script_text.proofs.definitions.push_definitions.Goals as goal

pub returns : goal.returns
returns c = rw (c.in_ok-push_var_attrs.ensures, c.as_slice-4.ensures, c.in_ok-push_attrs.ensures, c.as_slice-3.ensures, c.in_ok-push_vars.ensures, c.as_slice-2.ensures, c.in_ok-push_dims.ensures, c.as_slice.ensures) (simp append_assoc)
