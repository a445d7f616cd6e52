-- The bytes between two borders are those of one share.
use Rattle.file_domains.proofs.Words.{◌≡◌, ◌↔◌, ℕ, ◌+◌, ◌-◌, ◌*◌, ◌/◌, ◌<◌, ◌≤◌, max, min, arith, nat_tests}

pub in_cut : (lo hi low s a from to : ℕ) → 1 ≤ s → low ≤ lo → from ≡ min hi (max lo (low + a * s)) → to ≡ min hi (max lo (low + (a + 1) * s))
    → (x : ℕ) → ((from ≤ x) × (x < from + (to - from))) ↔ ((lo ≤ x) × (x < hi) × ((x - low) / s ≡ a))
in_cut lo hi low s a from to h k e f x = grind (arith, nat_tests)

pub multiple_is : (low s t k a m top : ℕ) → m ≡ min (low + k * s) top → s ≡ t → k ≡ a → m ≡ min (low + a * t) top
multiple_is low s t k a m top e f g = cc
