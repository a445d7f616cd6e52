use Rattle.script_text.proofs.Words.{append_assoc, decimal, map}
use Rattle.script_text.proofs.PrintingLaws.{joined_parts}
use Rattle.script_text.proofs.calls.push_first_size.Goals as goal

pub returns : goal.returns
returns c = rw (c.in_ok-push.ensures.items, c.in_ok-push_other_sizes.ensures, c.in_ok-push_numbered.ensures, joined_parts 44 (decimal c.args.first) (map decimal c.args.others.now)) (simp append_assoc)
