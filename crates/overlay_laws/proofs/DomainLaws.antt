-- A domain of a cover's bytes is the cover between two places.
use Rattle.overlay_laws.proofs.Words.{◌≡◌, ℕ, ◌+◌, ◌-◌, ◌*◌, ◌/◌, ◌≤◌, List, arith, filter, nat_lt, nat_le, ◌==◌, Extent, In, below, above, IsCover, spans, nat_tests}
use Rattle.overlay_laws.proofs.WalkLaws.{filter_two}
use Rattle.overlay_laws.proofs.CoverLaws.{spans_below, spans_above, above_cover}

-- the numbers of the share with this number, in shares of k numbers from c on
abbrev pub share : ℕ → ℕ → List ℕ → ℕ → List ℕ
share c k bytes j = filter (λ x. (x - c) / k == j) bytes

pub domain_cut : (low s a : ℕ) (cover : List Extent) → 1 ≤ s → IsCover cover → ((x : ℕ) → In (spans cover) x → low ≤ x)
    → filter (λ x. (x - low) / s == a) (spans cover) ≡ spans (below (low + (a + 1) * s) (above (low + a * s) cover))
domain_cut low s a cover h k least =
    let two = filter_two (λ x. (x - low) / s == a) (λ x. nat_lt x (low + (a + 1) * s)) (λ x. nat_le (low + a * s) x) (spans cover) (λ y m. grind (arith, nat_tests, least y m)) in
    grind (arith, nat_tests, two, spans_above (low + a * s) cover k, spans_below (low + (a + 1) * s) (above (low + a * s) cover) (above_cover (low + a * s) cover k))
