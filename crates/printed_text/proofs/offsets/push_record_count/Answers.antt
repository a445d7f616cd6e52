use Rattle.printed_text.proofs.Cited.{append_assoc}
use Rattle.printed_text.proofs.offsets.push_record_count.Goals as goal

pub returns : goal.returns
returns c =
    simp (c.in_ok-push_bytes.ensures, c.in_ok-push_numbered.ensures, append_assoc)
