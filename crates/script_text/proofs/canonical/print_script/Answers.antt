use Rattle.script_text.proofs.Words.{append_assoc}
use Rattle.script_text.proofs.canonical.print_script.Goals as goal

pub returns : goal.returns
returns c = rw (c.from_vec.ensures, c.in_ok-push_bytes-2.ensures, c.in_ok-push_ranks.ensures, c.as_slice-2.ensures, c.in_ok-push_bytes.ensures, c.in_ok-push_definitions.ensures, c.in_ok-push_extras.ensures, c.as_slice.ensures, c.in_ok-push_opening.ensures, c.new-out.ensures.items) (simp append_assoc)
