-- Optional values: what is there, what is not, the first of two.
use Rattle.list_laws.proofs.Words.{◌≡◌, Bool, true, false, cond, Option, Some, None, refl, inl, inr, ◌⊎◌, IfSome, is_some, is_none, option_map, option_or, arith, nat_tests}

pub no_none_some : {A B : Type 0} (a : A) → None ≡ Some a → B
no_none_some a h = absurd cc

pub some_or_none : {A : Type 0} (o : Option A) → (o ≡ None) ⊎ ((x : A) × (o ≡ Some x))
some_or_none None = inl refl
some_or_none (Some x) = inr (x, refl)

pub value_of_some : {A : Type 0} (o : Option A) → is_some o ≡ true → (x : A) × (o ≡ Some x)
value_of_some None h = absurd cc
value_of_some (Some x) h = (x, refl)

pub none_of_test : {A : Type 0} (o : Option A) → is_none o ≡ true → o ≡ None
none_of_test o h = grind (arith, nat_tests)

pub none_before_map : {A B : Type 0} (f : A → B) (o : Option A) → option_map f o ≡ None → o ≡ None
none_before_map f o h = grind (arith, nat_tests)

-- a value that is told under a test, and none where the test fails
pub untold : {A : Type 0} (t : Bool) (x : A) → cond t (Some x) None ≡ None → t ≡ false
untold t x h = grind (arith, nat_tests)

pub told_else : {A : Type 0} (t : Bool) (x : A) (o : Option A) → cond t (Some x) o ≡ None → (t ≡ false) × (o ≡ None)
told_else t x o h = grind (arith, nat_tests)

pub told_unless : {A : Type 0} (t : Bool) (o : Option A) (x : A) → cond t o (Some x) ≡ None → (t ≡ true) × (o ≡ None)
told_unless t o x h = grind (arith, nat_tests)

pub if_some_at : {A : Type 0} (P : A → Type 0) (o : Option A) (x : A) → o ≡ Some x → IfSome o P → P x
if_some_at P o x e h = grind (arith, nat_tests)

-- ---- the first of two

pub neither_some : {A : Type 0} (o q : Option A) → o ≡ None → q ≡ None → option_or o q ≡ None
neither_some o q h k = grind (arith, nat_tests)

pub both_none : {A : Type 0} (o q : Option A) → option_or o q ≡ None → (o ≡ None) × (q ≡ None)
both_none o q h = grind (arith, nat_tests)

pub second_counts : {A : Type 0} (o q : Option A) → o ≡ None → option_or o q ≡ q
second_counts o q h = grind (arith, nat_tests)

pub first_counts : {A : Type 0} (o q : Option A) (a : A) → o ≡ Some a → option_or o q ≡ Some a
first_counts o q a h = grind (arith, nat_tests)

pub option_or_assoc : {A : Type 0} (o q r : Option A) → option_or (option_or o q) r ≡ option_or o (option_or q r)
option_or_assoc o q r = grind (arith, nat_tests)

pub none_last : {A : Type 0} (o : Option A) → o ≡ option_or o None
none_last o = grind (arith, nat_tests)

pub not_some : {A : Type 0} (o : Option A) → is_some o ≡ false → o ≡ None
not_some o h = grind (arith, nat_tests)

pub some_of_map : {A B : Type 0} (g : A → B) (o : Option A) (y : B) → option_map g o ≡ Some y → (x : A) × (o ≡ Some x) × (g x ≡ y)
some_of_map g None y h = absurd (cc)
some_of_map g (Some x) y h = let same : g x ≡ y = cc in (x, refl, same)

pub some_not_none : {A : Type 0} (x : A) (o : Option A) → o ≡ Some x → o ≡ None → ⊥
some_not_none x o e f = grind (arith, nat_tests)
