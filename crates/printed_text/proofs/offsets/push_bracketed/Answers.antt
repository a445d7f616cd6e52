use Rattle.printed_text.proofs.Cited.{append_assoc}
use Rattle.printed_text.proofs.offsets.push_bracketed.Goals as goal

pub returns : goal.returns
returns c =
    simp (c.in_ok-push-2.ensures.items, c.in_ok-push_dim_names.ensures, c.in_ok-push.ensures.items, append_assoc)
