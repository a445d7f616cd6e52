use Rattle.redef_mover.proofs.Words.{◌≡◌, ℕ, refl, rules, always_returns_same, IsNonDecreasingBy-from_sort_by_key, NumberedVar}
use Rattle.redef_mover.proofs.Sorting.{sort_is, stable_is}
use Rattle.redef_mover.proofs.new_begins.sort_by_begin.Goals as goal

pub returns : goal.returns
returns c =
    let key = λ (v : NumberedVar). v.begin in
    let up = IsNonDecreasingBy-from_sort_by_key key _ c.in_ok-sort_by_key.ensures.sorted (λ a r q k. search rules) in
    let stable = stable_is key _ _ (λ (n : ℕ). record { number = 0; begin = n; len = 0 }) (λ n. refl) (c.in_ok-sort_by_key.ensures.stable key (always_returns_same _ (λ a r. r ≡ a.0.now.begin) _ (λ a r q k. search rules))) in
    sort_is key _ _ up stable
