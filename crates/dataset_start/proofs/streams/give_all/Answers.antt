use Rattle.dataset_start.proofs.Words.{◌≡◌, ◌+◌, ◌-◌, ℕ, List, ◌++◌, length, take, drop, sym, ap, ◌∙◌, Option, arith, take-add, take_rest, with_end, with_end-with_end, nat_tests}
use Rattle.dataset_start.proofs.streams.give_all.Goals as goal

-- what was given, with the front of what is left
one_more : (told now new : Option (List ℕ)) (text piece : List ℕ) (at n : ℕ) → piece ≡ take (length text - at) (drop at text) → now ≡ with_end told (take at text) → new ≡ with_end now (take n piece) → new ≡ with_end told (take (at + n) text)
one_more told now new text piece at n p e f =
    f ∙ ap (λ (t : Option (List ℕ)). with_end t (take n piece)) e ∙ with_end-with_end told (take at text) (take n piece)
    ∙ ap (λ (t : List ℕ). with_end told (take at text ++ take n t)) (p ∙ take_rest text at)
    ∙ ap (λ (t : List ℕ). with_end told t) (sym (take-add at n text))

pub loop-at-preserved : goal.loop-at-preserved
loop-at-preserved g c =
    grind (arith, nat_tests, one_more, c.in_ok-at.ensures.count, c.loop-at.invariant.given, c.in_ok-at.ensures.bytes, c.loop-at.invariant.later, c.give.ensures.cause.later)
