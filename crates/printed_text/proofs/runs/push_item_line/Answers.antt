use Rattle.printed_text.proofs.Cited.{append_assoc, decimal, sym, code_word, option_words, value_words}
use Rattle.printed_text.proofs.WordLaws.{item_words}
use Rattle.printed_text.proofs.runs.push_item_line.Goals as goal

pub returns : goal.returns
returns c =
    let i = c.args.item.now in
    let words = sym (item_words (decimal i.id) (code_word i.code) (option_words (value_words c.args.digits) i.values)) in
    simp (
      c.in_ok-push.ensures.items,
      c.in_ok-push_got.ensures,
      c.in_ok-push_word.ensures,
      c.in_ok-push_decimal.ensures,
      c.code_word.ensures,
      c.from.ensures,
      words,
      append_assoc,
    )
