-- Files between an old and a new one.
use Rattle.overlay_laws.proofs.Words.{ℕ, List, IsBetween, arith, nat_tests}

pub between_next : (old whole mid next left : List ℕ) → IsBetween old whole mid → IsBetween old whole next → IsBetween mid next left → IsBetween old whole left
between_next old whole mid next left a b c = grind (arith, nat_tests)
