-- The parts of a test: of a conjunction that holds, of a disjunction that doesn't.
use Rattle.list_laws.proofs.Words.{◌≡◌, ℕ, suc, ◌<◌, Bool, true, false, ◌&&◌, ◌||◌, refl, arith, ◌≤◌, ◌==◌, nat_tests, ◌⊎◌, cond}

pub no_false : {A : Type 0} → false ≡ true → A
no_false h = absurd cc

-- a test holds or doesn't, and so with a value under it
pub holds_or_not : (t : Bool) → (t ≡ true) ⊎ (t ≡ false)
holds_or_not t = grind (arith, nat_tests)

pub either : {X : Type 0} (P : X → Type 0) (t : Bool) (a b : X) → (t ≡ true → P a) → (t ≡ false → P b) → P (cond t a b)
either P t a b f g = grind (arith, nat_tests)

pub and_first : (a b : Bool) → (a && b) ≡ true → a ≡ true
and_first a b h = grind (arith, nat_tests)

pub and_second : (a b : Bool) → (a && b) ≡ true → b ≡ true
and_second a b h = grind (arith, nat_tests)

pub or_first_false : (a b : Bool) → (a || b) ≡ false → a ≡ false
or_first_false a b h = grind (arith, nat_tests)

pub or_second_false : (a b : Bool) → (a || b) ≡ false → b ≡ false
or_second_false a b h = grind (arith, nat_tests)

pub equal_true : (a b : ℕ) → a ≡ b → (a == b) ≡ true
equal_true a b h = grind (arith, nat_tests)

pub equal_itself : (n : ℕ) → (n == n) ≡ true
equal_itself n = grind (arith, nat_tests)

-- two numbers of which one is less
pub equal_above : (a b : ℕ) → b < a → (a == b) ≡ false
equal_above a b h = grind (arith, nat_tests)

pub equal_below : (a b : ℕ) → a < b → (a == b) ≡ false
equal_below a b h = grind (arith, nat_tests)

pub equal_zero : {A : Type 0} → (0 == 0) ≡ false → A
equal_zero h = absurd cc

pub equal_suc : (n : ℕ) → (suc n == 0) ≡ false
equal_suc n = grind (arith, nat_tests)

pub or_false : (b : Bool) → (b || false) ≡ b
or_false b = grind (arith, nat_tests)

pub all_three : (s t u : Bool) → s ≡ true → t ≡ true → u ≡ true → (s && t && u) ≡ true
all_three s t u h k l = rw (h, k, l) refl

pub not_zero : (n : ℕ) → (n == 0) ≡ false → 1 ≤ n
not_zero n h = grind (arith, nat_tests)

pub no_both : {A : Type 0} (b : Bool) → b ≡ true → b ≡ false → A
no_both b h k = cc
