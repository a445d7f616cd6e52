use Rattle.script_text.proofs.Words.{append_assoc, attr_values, joined_spaced, shown_values, type_word}
use Rattle.script_text.proofs.definitions.push_attr.Goals as goal

pub returns : goal.returns
returns c = rw (c.in_ok-push.ensures.items, c.in_ok-push_attr_values.ensures, c.in_ok-push_word-3.ensures, c.type_word.ensures, c.in_ok-push_word-2.ensures, c.as_slice.ensures, c.in_ok-push_word.ensures, c.in_ok-push_bytes.ensures, joined_spaced (type_word c.args.attr.now.kind) (shown_values (attr_values c.args.attr.now))) (simp append_assoc)
