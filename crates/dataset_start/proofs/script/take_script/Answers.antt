use Rattle.dataset_start.proofs.Words.{◌≡◌, ℕ, List, [], ◌≤◌, length, Option, Some, None, arith, nat_tests, Script, Asks, Reads, after, with_front, max_text}
use Rattle.std.proofs.Common.{append-nil}
use Rattle.dataset_start.proofs.script.take_script.Goals as goal

-- a text that is read is not longer than a script may be, and so was taken to its end
to_end : (left now : Option (List ℕ)) (text : List ℕ) (script : Script) → left ≡ with_front text now → (length text ≤ max_text → now ≡ after (λ _. []) now)
    → Reads text script → now ≡ after (λ _. []) left
to_end left now text script t e r = grind (arith, nat_tests)

-- so it is all that was left
asked : (left now : Option (List ℕ)) (text : List ℕ) (script : Script) → left ≡ with_front text now → now ≡ after (λ _. []) left → Reads text script → Asks left script
asked None now text script t n r = tt
asked (Some all) now text script t n r = grind (arith, nat_tests, append-nil)

pub returns-clause-taken : goal.returns-clause-taken
returns-clause-taken g c =
    grind (arith, nat_tests, to_end, c.in_ok-text.ensures.taken, c.in_ok-text.ensures.ended, c.deref.ensures.value, c.in_ok-script.ensures.read)

pub returns-clause-asks : goal.returns-clause-asks
returns-clause-asks g c =
    grind (arith, nat_tests, asked, to_end, c.deref.ensures.value, c.in_ok-script.ensures.read, c.in_ok-text.ensures.taken, c.in_ok-text.ensures.ended)
