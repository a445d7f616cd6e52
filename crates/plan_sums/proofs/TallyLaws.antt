-- One read or write more.
use Rattle.plan_sums.proofs.Words.{◌≡◌, ◌<◌, ℕ, ◌+◌, ◌-◌, ◌^◌, refl, sym, ◌∙◌, ap, List, [], ◌∷◌, ◌++◌, length, map, min, max, cond, arith, fold, count_by, sum_by_push, Extent, long_push, greatest, bytes_in, capped, is_unaligned, least_of, tally_of, Tally, nat_tests}

least_from : (n : ℕ) (es : List Extent) (e : Extent) → fold min n (map (λ x. x.len) (es ++ e ∷ [])) ≡ min (fold min n (map (λ x. x.len) es)) e.len
least_from n [] e = refl
least_from n (x ∷ es) e = least_from (min n x.len) es e

most_push : (es : List Extent) (e : Extent) → greatest (map (λ x. x.len) (es ++ e ∷ [])) ≡ max (greatest (map (λ x. x.len) es)) e.len
most_push [] e = omega arith
most_push (x ∷ es) e = let rest = most_push es e in omega arith

-- the first is the least of one, a later one that or the least of those before
least_push : (before : List Extent) (e : Extent) (least : ℕ) → (capped (length before) ≡ 0 → least ≡ e.len)
    → (0 < capped (length before) → least ≡ min (least_of (map (λ x. x.len) before)) e.len) → least ≡ least_of (map (λ x. x.len) (before ++ e ∷ []))
least_push [] e least first later = first refl
least_push (x ∷ before) e least first later = later (omega arith) ∙ sym (least_from x.len before e)

pub tally_more : (unit : ℕ) (before : List Extent) (e : Extent) (t : Tally) (calls bytes least most one unaligned : ℕ) → t ≡ tally_of unit before
    → calls ≡ min (t.calls + 1) (2 ^ 64 - 1) → bytes ≡ min (t.bytes + e.len) (2 ^ 64 - 1)
    → (t.calls ≡ 0 → least ≡ e.len) → (0 < t.calls → least ≡ min t.least e.len) → most ≡ max t.most e.len
    → one ≡ cond (is_unaligned unit e) 1 0 → unaligned ≡ min (t.unaligned + one) (2 ^ 64 - 1)
    → record { calls = calls; bytes = bytes; least = least; most = most; unaligned = unaligned } ≡ tally_of unit (before ++ e ∷ [])
tally_more unit before e t calls bytes least most one unaligned is many long first later longest stray strays =
    let was_many : t.calls ≡ capped (length before) = ap (λ (x : Tally). x.calls) is in
    let was_long : t.bytes ≡ capped (bytes_in before) = ap (λ (x : Tally). x.bytes) is in
    let was_least : t.least ≡ least_of (map (λ x. x.len) before) = ap (λ (x : Tally). x.least) is in
    let was_most : t.most ≡ greatest (map (λ x. x.len) before) = ap (λ (x : Tally). x.most) is in
    let was_strays : t.unaligned ≡ capped (count_by (is_unaligned unit) before) = ap (λ (x : Tally). x.unaligned) is in
    let more = long_push before e in
    let more_bytes = sum_by_push (λ (x : Extent). x.len) before e in
    let more_strays = sum_by_push (λ (x : Extent). cond (is_unaligned unit x) 1 0) before e in
    grind (arith, nat_tests, least_push before e least, most_push before e)
