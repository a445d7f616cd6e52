use Rattle.printed_text.proofs.WordLaws.{then_three}
use Rattle.printed_text.proofs.runs.push_rank.Goals as goal

pub returns : goal.returns
returns c =
    then_three c.args.out.now.items _ _ _ c.in_ok-push_number_line.ensures (rw (c.as_slice.ensures, c.as_slice-2.ensures) at c.in_ok-push_calls.ensures) c.in_ok-push_number_line-2.ensures
