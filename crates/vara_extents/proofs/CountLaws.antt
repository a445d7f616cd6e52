-- Counts and positions, one dimension more.
use Rattle.vara_extents.proofs.Words.{◌≡◌, ℕ, ◌+◌, ◌-◌, ◌*◌, ◌<◌, List, length, take, get_or, zip, arith, sum_by, sum_by_more, length-zip, get_or-zip, capped, nat_tests}

pub one_farther : (counts imap : List ℕ) (i s n : ℕ) → i < length counts → length imap ≡ length counts
    → s ≡ capped (sum_by (λ (p : ℕ × ℕ). (p.0 - 1) * p.1) (take i (zip counts imap))) → n ≡ capped ((get_or counts i 0 - 1) * get_or imap i 0)
    → capped (s + n) ≡ capped (sum_by (λ (p : ℕ × ℕ). (p.0 - 1) * p.1) (take (i + 1) (zip counts imap)))
one_farther counts imap i s n h same e f =
    grind (arith, nat_tests, length-zip counts imap, get_or-zip counts imap i (0, 0), sum_by_more (λ (p : ℕ × ℕ). (p.0 - 1) * p.1) (zip counts imap) i (0, 0))
