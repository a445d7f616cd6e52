use Rattle.printed_text.proofs.Cited.{append_assoc, ℕ, [], ◌∷◌, decimal, sym, call_word, option_words, outcome, value_words}
use Rattle.printed_text.proofs.WordLaws.{call_words}
use Rattle.printed_text.proofs.runs.push_call_line.Goals as goal

pub returns : goal.returns
returns c =
    let a = c.args.answer.now in
    let words =
    sym
    (call_words (decimal c.args.number) (call_word c.args.call.now) (outcome a.code a.pair) (option_words (λ (x : ℕ). decimal x ∷ []) a.number) (option_words (value_words c.args.digits) a.values)) in
    simp (
      c.in_ok-push-2.ensures.items,
      c.in_ok-push_answer.ensures,
      c.in_ok-push_call_word.ensures,
      c.in_ok-push.ensures.items,
      c.in_ok-push_decimal.ensures,
      words,
      append_assoc,
    )
