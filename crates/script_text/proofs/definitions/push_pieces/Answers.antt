use Rattle.script_text.proofs.Words.{◌≡◌, ◌-◌, ◌∙◌, ap, ℕ, List, ◌∷◌, ◌++◌, take, drop, suc, arith, Value, size_of, val, value_word, nat_tests}
use Rattle.script_text.proofs.PrintingLaws.{piece_pushed, pieces_last}
use Rattle.script_text.proofs.definitions.push_pieces.Goals as goal

pub loop-left-preserved : goal.loop-left-preserved
loop-left-preserved c =
    let n : ℕ = c.loop-left.left in
    let one : n ≡ suc (n - 1) = omega (arith, c.loop-left-test.true) in
    record {
      lasts = grind (arith, nat_tests, pieces_last, c.loop-left.invariant.lasts, c.split_at.ensures.back_len, c.size_of-size.ensures);
      whole = piece_pushed (λ (b : List ℕ). 32 ∷ value_word (val c.args.kind b)) (size_of c.args.kind) c.loop-left.out.items c.push_value.new.out.items _ n (n - 1)
          c.loop-left.rest.now c.split_at.result.0.now c.split_at.result.1.now one
          (c.split_at.ensures.front ∙ ap (λ (k : ℕ). take k c.loop-left.rest.now) c.size_of-size.ensures)
          (c.split_at.ensures.back ∙ ap (λ (k : ℕ). drop k c.loop-left.rest.now) c.size_of-size.ensures)
          (c.in_ok-push_value.ensures ∙ ap (λ (v : Value). c.loop-left.out.items ++ 32 ∷ value_word v) c.decode_one.ensures) c.loop-left.invariant.whole;
    }
