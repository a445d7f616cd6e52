use Rattle.printed_text.proofs.Cited.{append_assoc, map, codes, mark_word}
use Rattle.printed_text.proofs.WordLaws.{joined_spaced}
use Rattle.printed_text.proofs.runs.push_order.Goals as goal

pub returns : goal.returns
returns c =
    let words = joined_spaced (codes "order") (map mark_word c.args.order.now) in
    simp (c.in_ok-push.ensures.items, c.in_ok-push_marks.ensures, c.in_ok-push_bytes.ensures, words, append_assoc)
