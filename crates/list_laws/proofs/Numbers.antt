-- Products and quotients of natural numbers.
use Rattle.list_laws.proofs.Words.{◌≡◌, ℕ, ◌*◌, ◌/◌, ◌<◌, ◌≤◌, sym, ◌∙◌, ap, arith, mul-div_cancel, nat_tests}

pub some_factor : (n size x : ℕ) → x < n * size → 0 < size
some_factor n size x h = grind (arith, nat_tests)

pub same_factor : (x y t : ℕ) → 1 ≤ t → x * t ≡ y * t → x ≡ y
same_factor x y t h f = sym (mul-div_cancel x {n = t} h) ∙ ap (λ (k : ℕ). k / t) f ∙ mul-div_cancel y {n = t} h

pub le_two : (a b c : ℕ) → a ≤ b → b ≤ c → a ≤ c
le_two a b c h k = omega arith

pub same_le : (a b n : ℕ) → a ≡ b → b ≤ n → a ≤ n
same_le a b n e l = omega arith
