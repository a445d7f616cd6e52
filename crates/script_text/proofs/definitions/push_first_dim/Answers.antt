use Rattle.script_text.proofs.Words.{append_assoc, dim_name, map}
use Rattle.script_text.proofs.PrintingLaws.{joined_parts}
use Rattle.script_text.proofs.definitions.push_first_dim.Goals as goal

pub returns : goal.returns
returns c = rw (c.in_ok-push-2.ensures.items, c.in_ok-push_dim_names.ensures, c.in_ok-push.ensures.items, joined_parts 44 (dim_name c.args.header.now c.args.first) (map (dim_name c.args.header.now) c.args.others.now)) (simp append_assoc)
