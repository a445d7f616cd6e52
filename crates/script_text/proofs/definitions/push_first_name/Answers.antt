use Rattle.script_text.proofs.Words.{append_assoc}
use Rattle.script_text.proofs.PrintingLaws.{joined_parts}
use Rattle.script_text.proofs.definitions.push_first_name.Goals as goal

pub returns : goal.returns
returns c = rw (c.in_ok-push-2.ensures.items, c.in_ok-push_other_names.ensures, c.in_ok-push_bytes.ensures, c.as_slice.ensures, c.in_ok-push.ensures.items, joined_parts 44 c.args.first.now c.args.others.now) (simp append_assoc)
