use Rattle.printed_text.proofs.Cited.{ℕ, ◌+◌, ◌∷◌, ◌++◌, List, ap, sym, ◌∙◌, arith, append_assoc, take, hex}
use Rattle.printed_text.proofs.WordLaws.{spaced_next}
use Rattle.printed_text.proofs.words.push_patterns.Goals as goal

pub loop-k-preserved : goal.loop-k-preserved
loop-k-preserved c =
    let out : List ℕ = c.with_room.new.out.items in
    let word : List ℕ = 32 ∷ 120 ∷ hex c.args.digits c.at.result in
    let more = spaced_next (λ (n : ℕ). 120 ∷ hex c.args.digits n) c.args.out.now.items c.args.patterns.now c.loop-k.k c.at.result c.at.ensures in
    record {
      pushed =
          ap (λ (n : ℕ). out ++ take (c.in_ok-at.at + (n + 2)) c.write_pattern.new.text) c.from.ensures
          ∙ ap (λ (t : List ℕ). out ++ t) c.write_pattern.ensures.written
          ∙ sym (append_assoc out (take c.in_ok-at.at c.loop-k.block) word)
          ∙ ap (λ (t : List ℕ). t ++ word) (c.in_ok-at.ensures.same ∙ c.loop-k.invariant.pushed)
          ∙ sym more;
      bound = omega (arith, c.in_ok-at.ensures.room);
    }
