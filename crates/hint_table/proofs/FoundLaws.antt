-- The first hint with a word has the place of the first row with it.
use Rattle.std.proofs.lemmas.Bool.Decides.{nat_tests}
use Rattle.std.proofs.Common.{◌≡◌, ℕ, suc, ◌+◌, List, [], ◌∷◌, length, find, Bool, not, cond, nat_lt, Option, Some, None, option_map, bytes_eq, refl, ap, arith}
use Rattle.std.specs.List.{position_or_len}
use Rattle.std.proofs.lemmas.Bool.{cases_lt, cond-true, cond-false}
use borrow.Author.Tests.{lt-ltb, le-ltb}
use Rattle.script_spec.specs.HintTable.{hint_of_text}
use Rattle.hint_table.specs.declared.HintName.{HintName}
use Rattle.hint_table.specs.declared.TheConstants.{HINTS}
use Rattle.hint_table.specs.HintNames.{first_with, hint_place}

-- the places of the names are k and on
abbrev Numbered : ℕ → List HintName → Type 0
Numbered k [] = Unit {0}
Numbered k (name ∷ names) = (hint_place name ≡ k) × Numbered (suc k) names

-- m places after k, where there are n of them
abbrev place : ℕ → ℕ → ℕ → Option ℕ
place k m n = cond (nat_lt m n) (Some (k + m)) None

found_from : (p : HintName → Bool) (k : ℕ) (names : List HintName) → Numbered k names → option_map hint_place (find p names) ≡ place k (position_or_len p names) (length names)
found_from p k [] h = refl
found_from p k (name ∷ names) h =
    grind (arith, nat_tests, found_from p (suc k) names h.1, option_map, find, not, cond-true, lt-ltb, cond-false, le-ltb, cases_lt, hint_place, place, position_or_len)

from_zero : (m n : ℕ) → place 0 m n ≡ cond (nat_lt m n) (Some m) None
from_zero m n = let same : 0 + m ≡ m = omega arith in ap (λ (i : ℕ). cond (nat_lt m n) (Some i) None) same

pub place_found : (w : List ℕ) → option_map hint_place (first_with HINTS w) ≡ hint_of_text w
place_found w = grind (arith, nat_tests, found_from, bytes_eq w, from_zero)
