use Rattle.printed_text.proofs.Cited.{append_assoc}
use Rattle.printed_text.proofs.faults.push_variable_line.Goals as goal

pub returns : goal.returns
returns c =
    simp (c.in_ok-push.ensures.items, c.in_ok-push_bytes.ensures, c.in_ok-push_numbered.ensures, append_assoc)
