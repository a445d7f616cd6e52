-- What one rank more asks for.
use Rattle.plan_sums.proofs.Words.{◌≡◌, ℕ, ◌+◌, ◌-◌, ◌^◌, ap, List, [], ◌∷◌, ◌++◌, min, arith, sum_by_push, Asked, naive_sum, Naive, nat_tests}

pub asked_more : (before : List Asked) (one : Asked) (n : Naive) (calls bytes : ℕ) → n ≡ naive_sum before → calls ≡ min (n.calls + one.pieces) (2 ^ 64 - 1)
    → bytes ≡ min (n.bytes + one.bytes) (2 ^ 64 - 1) → record { calls = calls; bytes = bytes } ≡ naive_sum (before ++ one ∷ [])
asked_more before one n calls bytes is many long =
    let was_many : n.calls ≡ (naive_sum before).calls = ap (λ (x : Naive). x.calls) is in
    let was_long : n.bytes ≡ (naive_sum before).bytes = ap (λ (x : Naive). x.bytes) is in
    let pieces = sum_by_push (λ (a : Asked). a.pieces) before one in
    let more = sum_by_push (λ (a : Asked). a.bytes) before one in
    grind (arith, nat_tests)
