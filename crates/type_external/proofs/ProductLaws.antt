-- A product that stops at the greatest number of 64 bits.
use Rattle.std.proofs.lemmas.Bool.Decides.{nat_tests}
use Rattle.std.proofs.Common.{◌≡◌, ℕ, ◌-◌, ◌*◌, ◌^◌, ap, ◌∙◌, List, [], ◌∷◌, fold, min, arith}
use Rattle.std.proofs.Math.Nat.{mul_assoc}
use Rattle.serial_spec.specs.Layout.{product}

abbrev top : ℕ
top = 2 ^ 64 - 1

at_most : (a c : ℕ) → min (min a top * c) top ≡ min (a * c) top
at_most a c = grind (arith, nat_tests)

saturates : (a : ℕ) (counts : List ℕ) → fold (λ p c. min (p * c) top) (min a top) counts ≡ min (a * product counts) top
saturates a [] = omega arith
saturates a (c ∷ counts) =
    ap (λ (n : ℕ). fold (λ p c. min (p * c) top) n counts) (at_most a c)
    ∙ saturates (a * c) counts
    ∙ ap (λ (n : ℕ). min n top) (mul_assoc a c (product counts))

pub saturated_product : (counts : List ℕ) → fold (λ p c. min (p * c) (2 ^ 64 - 1)) 1 counts ≡ min (product counts) (2 ^ 64 - 1)
saturated_product counts = saturates 1 counts ∙ ap (λ (n : ℕ). min n top) (omega arith)
