use Rattle.printed_text.proofs.Cited.{append_assoc}
use Rattle.printed_text.proofs.runs.push_answer.Goals as goal

pub returns : goal.returns
returns c =
    simp (c.in_ok-push_got.ensures, c.in_ok-push_length.ensures, c.in_ok-push_outcome.ensures, append_assoc)
