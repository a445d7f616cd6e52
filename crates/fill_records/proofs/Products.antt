-- The product of the counts so far, where none is 0.
use Rattle.fill_records.proofs.Words.{◌≡◌, ℕ, zero, suc, ◌+◌, ◌*◌, ◌<◌, ◌≤◌, ap, List, [], ◌∷◌, length, take, get_or, arith, mul-one, take_more, take-append-drop, product, product-append, nat_tests}

pub product_more : (counts : List ℕ) (i size : ℕ) → i < length counts → size ≡ product (take i counts) → size * get_or counts i 0 ≡ product (take (i + 1) counts)
product_more counts i size h e =
    grind (arith, nat_tests, mul-one (get_or counts i 0), take_more counts i 0 h, product-append (take i counts) (get_or counts i 0 ∷ []))

some_part : (a b : ℕ) → 1 ≤ a * b → a ≤ a * b
some_part a zero h = absurd (omega arith)
some_part a (suc b) h = omega arith

pub product_part : (counts : List ℕ) (i : ℕ) → 1 ≤ product counts → product (take i counts) ≤ product counts
product_part counts i h =
    let whole = ap (λ ns. product ns) (take-append-drop i counts) in
    grind (arith, nat_tests, product-append, some_part)
