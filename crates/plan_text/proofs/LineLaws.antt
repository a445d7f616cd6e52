-- Parts behind a front, and words and numbers that a line goes on with.
use Rattle.plan_text.proofs.Cited.{◌≡◌, ℕ, List, ◌++◌, sym, ap, ◌∙◌, append_assoc, then_append, text_line, arith, nat_tests}

-- words and what follows them, behind a front
pub then_words : (o x y a b c : List ℕ) → x ≡ o ++ a → y ≡ x ++ (b ++ c) → y ≡ o ++ (a ++ b ++ c)
then_words o x y a b c e f = then_append o x y a (b ++ c) e f ∙ ap (λ (t : List ℕ). o ++ t) (sym (append_assoc a b c))

-- the last ones of a line
pub then_end : (o x y a b c : List ℕ) → x ≡ o ++ a → y ≡ x ++ text_line (b ++ c) → y ≡ o ++ text_line (a ++ b ++ c)
then_end o x y a b c e f = grind (arith, nat_tests, then_append)

-- five words, of which each but the first has its blank
pub five_words : (a b c d e : List ℕ) → a ++ b ++ c ++ d ++ e ≡ a ++ (b ++ (c ++ (d ++ e)))
five_words a b c d e = simp append_assoc

-- parts of which each one stands before all that follow it
pub joined_three : (o : List ℕ) {x y z : List ℕ} (a b c : List ℕ) → x ≡ o ++ a → y ≡ x ++ b → z ≡ y ++ c → z ≡ o ++ (a ++ (b ++ c))
joined_three o a b c e f g = then_append o _ _ a (b ++ c) e (then_append _ _ _ b c f g)

pub joined_four : (o : List ℕ) {x y z w : List ℕ} (a b c d : List ℕ) → x ≡ o ++ a → y ≡ x ++ b → z ≡ y ++ c → w ≡ z ++ d → w ≡ o ++ (a ++ (b ++ (c ++ d)))
joined_four o a b c d e f g h = then_append o _ _ a (b ++ (c ++ d)) e (joined_three _ b c d f g h)
