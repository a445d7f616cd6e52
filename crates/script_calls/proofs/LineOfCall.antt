-- A line of a call, by its first word.
use Rattle.script_calls.proofs.Words.{◌≡◌, ℕ, List, Result, Ok, ScriptKind, Call, Word, ◌>>=◌, next, arith, nat_tests}

pub line_of_next : (F : ℕ → List Call → ℕ → List ℕ → List Word → Result Call ScriptKind) (ws after : List Word) (w : List ℕ) (n m b k : ℕ) (own other : List Call)
    → next ws ≡ Ok (w, after) → n ≡ m → own ≡ other → b ≡ k → F n own b w after ≡ (next ws >>= λ x. F m other k x.0 x.1)
line_of_next F ws after w n m b k own other e count same values = grind (arith, nat_tests)
