-- A list whose items were lent, and came back as so many.
use Rattle.list_laws.proofs.Words.{◌≡◌, ◌++◌, ◌∙◌, ℕ, List, length, take, drop, sym, ap, take-append_seam, refill}

pub refilled : {A : Type 0} (old now : List A) → length now ≡ length old → refill (length old) old now ≡ now
refilled old now e = ap (λ (n : ℕ). take n (now ++ drop (length now) old)) (sym e) ∙ take-append_seam now (drop (length now) old)
