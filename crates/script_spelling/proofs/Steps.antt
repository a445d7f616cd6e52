-- Steps from word to word, forwards and backwards.
use Rattle.script_spelling.proofs.Words.{◌≡◌, ◌∙◌, ℕ, List, [], ◌∷◌, Bool, true, false, Option, Some, None, Result, Ok, Err, refl, ap, ScriptKind, Word, Plain, ◌>>=◌, refuse_if, or_fault, reads_as, ended, whole, arith, nat_tests, cond, list_all}

pub all_more : {A : Type 0} (p q : A → Bool) → ((x : A) → p x ≡ true → q x ≡ true) → (xs : List A) → list_all p xs ≡ true → list_all q xs ≡ true
all_more p q more [] h = refl
all_more p q more (x ∷ xs) h = grind (arith, nat_tests, all_more p q more xs)

-- ---- what a step that gave something says of its parts

pub record Went {A B E : Type 0} (r : Result A E) (f : A → Result B E) (y : B) : Type 0 where
  pub value : A
  pub first : r ≡ Ok value
  pub rest : f value ≡ Ok y

pub went : {A B E : Type 0} (r : Result A E) (f : A → Result B E) (y : B) → (r >>= f) ≡ Ok y → Went r f y
went r f y h = grind (arith, nat_tests)

pub go_on : {A B E : Type 0} (r : Result A E) (f : A → Result B E) (x : A) (y : B) → r ≡ Ok x → f x ≡ Ok y → (r >>= f) ≡ Ok y
go_on r f x y e h = ap (λ (s : Result _ _). s >>= f) e ∙ h

abbrev ok_or : {A E : Type 0} → A → Result A E → A
ok_or d (Ok x) = x
ok_or d (Err e) = d

pub same_ok : {A E : Type 0} (x y : A) → ◌≡◌ {A = Result A E} (Ok x) (Ok y) → x ≡ y
same_ok x y h = ap (ok_or x) h

pub passed : (b : Bool) (e : ScriptKind) → b ≡ false → refuse_if b e ≡ Ok tt
passed b e h = grind (arith, nat_tests)

pub faultless : {A : Type 0} (e : ScriptKind) (o : Option A) (x : A) → o ≡ Some x → or_fault e o ≡ Ok x
faultless e o x h = ap (or_fault e) h

-- ---- a word that is read

pub word_read : {A : Type 0} (f : List ℕ → Option A) (e : ScriptKind) (w : List ℕ) (x : A) (more : List Word) → f w ≡ Some x → reads_as f e (Plain w ∷ more) ≡ Ok (x, more)
word_read f e w x more h = ap (λ (o : Option _). or_fault e o >>= λ y. Ok (y, more)) h

pub is_end : (ws : List Word) (u : Unit {0}) → ended ws ≡ Ok u → ws ≡ []
is_end ws u h = grind (arith, nat_tests)

pub whole_value : {A : Type 0} (p : A × List Word) (x : A) → whole p ≡ Ok x → (p.0 ≡ x) × (p.1 ≡ [])
whole_value p x h = grind (arith, nat_tests, went, same_ok, is_end)

-- the words after a word that is read
pub word_before : {A : Type 0} (f : List ℕ → Option A) (e : ScriptKind) (ws : List Word) (r : A × List Word) → reads_as f e ws ≡ Ok r → (w : Word) × (ws ≡ w ∷ r.1)
word_before f e [] r h = absurd (cc)
word_before f e (w ∷ ws) r h = (w, grind (arith, nat_tests, went, same_ok))

-- ---- from step to step, with what each says

pub step_then : {A B E P : Type 0} (r : Result A E) (f : A → Result B E) (y : B) → (r >>= f) ≡ Ok y → ((x : A) → r ≡ Ok x → f x ≡ Ok y → P) → P
step_then r f y h k = grind (arith, nat_tests)

pub free_then : {B P : Type 0} (b : Bool) (e : ScriptKind) (f : Unit {0} → Result B ScriptKind) (y : B) → (refuse_if b e >>= f) ≡ Ok y → (b ≡ false → f tt ≡ Ok y → P) → P
free_then b e f y h k = grind (arith, nat_tests)

pub end_then : {B P : Type 0} (ws : List Word) (f : Unit {0} → Result B ScriptKind) (y : B) → (ended ws >>= f) ≡ Ok y → (ws ≡ [] → f tt ≡ Ok y → P) → P
end_then ws f y h k = step_then (ended ws) f y h (λ u is. k (is_end ws u is))

-- ---- a step by cases, as a step that goes on

abbrev pub carry : {A B E : Type 0} → Result A E → (A → Result B E) → Result B E
carry r f = elim r [ Err e ↦ Err e | Ok x ↦ f x ]

pub carried : {A B E : Type 0} (r : Result A E) (f : A → Result B E) (y : B) → carry r f ≡ Ok y → Went r f y
carried r f y h = grind (arith, nat_tests)

pub carry_on : {A B E : Type 0} (r : Result A E) (f : A → Result B E) (x : A) (y : B) → r ≡ Ok x → f x ≡ Ok y → carry r f ≡ Ok y
carry_on r f x y e h = ap (λ (s : Result _ _). carry s f) e ∙ h

-- ---- the two ways of a test, and what may be there or not

pub tested : {A P : Type 0} (b : Bool) (x y z : A) → elim b as (λ t. A) [ true ↦ x | false ↦ y ] ≡ z → (b ≡ true → x ≡ z → P) → (b ≡ false → y ≡ z → P) → P
tested b x y z h f g = grind (arith, nat_tests)

pub looked : {A B P : Type 0} (o : Option A) (x : B) (f : A → B) (z : B) → elim o as (λ t. B) [ None ↦ x | Some a ↦ f a ] ≡ z → (o ≡ None → x ≡ z → P) → ((a : A) → o ≡ Some a → f a ≡ z → P) → P
looked o x f z h n s = grind (arith, nat_tests)

pub decided : {A P : Type 0} (b : Bool) (x y z : A) → cond b x y ≡ z → (b ≡ true → x ≡ z → P) → (b ≡ false → y ≡ z → P) → P
decided b x y z h f g = grind (arith, nat_tests)

-- what holds of either holds of the one that is taken
pub either : {A : Type 0} (P : A → Type 0) (b : Bool) (x y : A) → P x → P y → P (elim b as (λ t. A) [ true ↦ x | false ↦ y ])
either P b x y h k = grind (arith, nat_tests)

pub maybe : {A B : Type 0} (P : B → Type 0) (o : Option A) (x : B) (f : A → B) → P x → ((a : A) → o ≡ Some a → P (f a)) → P (elim o as (λ t. B) [ None ↦ x | Some a ↦ f a ])
maybe P o x f h k = grind (arith, nat_tests)

-- ---- what comes of two tests, one after the other

pub by_false : {A : Type 0} (b : Bool) (x y : A) → b ≡ false → elim b as (λ t. A) [ true ↦ x | false ↦ y ] ≡ y
by_false b x y h = grind (arith, nat_tests)
