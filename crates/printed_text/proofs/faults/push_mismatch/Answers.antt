use Rattle.printed_text.proofs.Cited.{append_assoc}
use Rattle.printed_text.proofs.faults.push_mismatch.Goals as goal

pub returns : goal.returns
returns c =
    simp (
      c.in_ok-push_numbered-3.ensures,
      c.in_ok-push_numbered-2.ensures,
      c.in_ok-push_numbered.ensures,
      c.from.ensures,
      c.from-2.ensures,
      c.from-3.ensures,
      append_assoc,
    )
