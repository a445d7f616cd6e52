-- Steps that succeed, from word to word.
use Rattle.script_laws.proofs.Words.{◌≡◌, ℕ, List, Bool, true, false, Option, Some, None, Result, Ok, Err, IfOk, subst, faultless_some, ScriptKind, Word, ◌>>=◌, refuse_if, reads_as, ended, whole, at_line, arith, nat_tests}

pub first_then : {A B E : Type 0} (m : Result A E) (f : A → Result B E) (P : B → Type 0) → ((x : A) → m ≡ Ok x → IfOk (f x) P) → IfOk (m >>= f) P
first_then m f P h = grind (arith, nat_tests)

-- the same where something is known of what the first step gives
pub then_with : {A B E : Type 0} (m : Result A E) (f : A → Result B E) (P : B → Type 0) (Q : A → Type 0) → IfOk m Q → ((x : A) → Q x → IfOk (f x) P) → IfOk (m >>= f) P
then_with m f P Q q h = grind (arith, nat_tests)

pub ok_then : {A B E : Type 0} (m : Result A E) (f : A → Result B E) (P : B → Type 0) (Q : A → Type 0) → IfOk m Q → ((x : A) → Q x → IfOk (f x) P)
    → IfOk (elim m as (λ _. Result B E) [ Err e ↦ Err e | Ok x ↦ f x ]) P
ok_then m f P Q q h = grind (arith, nat_tests)

pub by_test : {A E : Type 0} (b : Bool) (p q : Result A E) (P : A → Type 0) → (b ≡ true → IfOk p P) → (b ≡ false → IfOk q P)
    → IfOk (elim b as (λ _. Result A E) [ true ↦ p | false ↦ q ]) P
by_test b p q P f g = grind (arith, nat_tests)

pub by_some : {A B E : Type 0} (o : Option A) (f : A → Result B E) (q : Result B E) (P : B → Type 0) → ((x : A) → o ≡ Some x → IfOk (f x) P) → IfOk q P
    → IfOk (elim o as (λ _. Result B E) [ Some x ↦ f x | None ↦ q ]) P
by_some o f q P g h = grind (arith, nat_tests)

pub if_read : {A E : Type 0} (r : Result A E) (P : A → Type 0) (x : A) → r ≡ Ok x → IfOk r P → P x
if_read {A} {E} r P x e h = let Q : Result A E → Type 0 = λ s. IfOk s P in subst Q e h

pub unless_refused : (b : Bool) (e : ScriptKind) (P : Type 0) → (b ≡ false → P) → IfOk (refuse_if b e) (λ _. P)
unless_refused b e P f = grind (arith, nat_tests)

pub read_as : {A : Type 0} (f : List ℕ → Option A) (e : ScriptKind) (ws : List Word) (P : A → Type 0) → ((w : List ℕ) (x : A) → f w ≡ Some x → P x) → IfOk (reads_as f e ws) (λ r. P r.0)
read_as f e ws P h = grind (arith, nat_tests, first_then, faultless_some)

-- the same of a word
pub word_then : {A B : Type 0} (f : List ℕ → Option A) (e : ScriptKind) (ws : List Word) (g : A × List Word → Result B ScriptKind) (P : B → Type 0) (Q : A → Type 0)
    → ((w : List ℕ) (x : A) → f w ≡ Some x → Q x) → ((r : A × List Word) → Q r.0 → IfOk (g r) P) → IfOk (reads_as f e ws >>= g) P
word_then f e ws g P Q h k = then_with (reads_as f e ws) g P (λ r. Q r.0) (read_as f e ws Q h) k

-- what is not refused
pub unless : {B : Type 0} (b : Bool) (e : ScriptKind) (f : Unit {0} → Result B ScriptKind) (P : B → Type 0) → (b ≡ false → IfOk (f tt) P) → IfOk (refuse_if b e >>= f) P
unless b e f P h = grind (arith, nat_tests)

pub whole_line : {A : Type 0} (x : A) (ws : List Word) (P : A → Type 0) → P x → IfOk (whole (x, ws)) P
whole_line x ws P h = first_then (ended ws) _ _ (λ _ _. h)

pub at_line_kept : {A : Type 0} (n : ℕ) (r : Result A ScriptKind) (P : A → Type 0) → IfOk r P → IfOk (at_line n r) P
at_line_kept n r P h = grind (arith, nat_tests)
