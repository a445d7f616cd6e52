-- Words that are read stand as they are.
use Rattle.script_spelling.proofs.Words.{◌≡◌, ℕ, List, [], ◌∷◌, true, Option, Some, None, Ok, refl, faultless_some, ScriptKind, Word, Plain, is_name, size_of_text, list_of_text, ◌>>=◌, or_fault, bare, reads_as, size, list, name, name_of_text, SpellsOne, arith, nat_tests, Result, cond-true}
use Rattle.script_spelling.proofs.Steps.{went, same_ok, step_then, word_read}
use Rattle.nc_base.specs.declared.errors.ScriptKind.TheVariants as kind

-- the word that is read, and what follows it
pub record WordRead {A : Type 0} (f : List ℕ → Option A) (ws : List Word) (r : A × List Word) : Type 0 where
  pub word : List ℕ
  pub are : ws ≡ Plain word ∷ r.1
  pub says : f word ≡ Some r.0

-- what reads no lone quote reads a word as it stands
pub word_is : {A : Type 0} (f : List ℕ → Option A) (e : ScriptKind) (ws : List Word) (r : A × List Word) → f (34 ∷ []) ≡ None → reads_as f e ws ≡ Ok r → WordRead f ws r
word_is f e ws r none h = grind (arith, nat_tests, went, faultless_some, same_ok)

pub read_then : {A B P : Type 0} (g : List ℕ → Option A) (e : ScriptKind) (ws : List Word) (f : A × List Word → Result B ScriptKind) (y : B) → g (34 ∷ []) ≡ None → (reads_as g e ws >>= f) ≡ Ok y
    → ((r : A × List Word) → WordRead g ws r → f r ≡ Ok y → P) → P
read_then g e ws f y none h k = step_then (reads_as g e ws) f y h (λ r is. k r (word_is g e ws r none is))

-- one word by itself
pub one_is : {A : Type 0} (f : List ℕ → Option A) (e : ScriptKind) (w : Word) (x : A) → f (34 ∷ []) ≡ None → (bare w >>= λ v. or_fault e (f v)) ≡ Ok x → SpellsOne f w x
one_is f e w x none h = grind (arith, nat_tests, faultless_some)

-- ---- names

pub record NameRead (ws : List Word) (r : List ℕ × List Word) : Type 0 where
  pub are : ws ≡ Plain r.0 ∷ r.1
  pub named : is_name r.0 ≡ true

pub name_is : (ws : List Word) (r : List ℕ × List Word) → name ws ≡ Ok r → NameRead ws r
name_is ws r h = grind (arith, nat_tests, word_is)

pub named_then : {B P : Type 0} (ws : List Word) (f : List ℕ × List Word → Result B ScriptKind) (y : B) → (name ws >>= f) ≡ Ok y → ((n : List ℕ × List Word) → NameRead ws n → f n ≡ Ok y → P) → P
named_then ws f y h k = step_then (name ws) f y h (λ n is. k n (name_is ws n is))

pub name_again : (n : List ℕ) (more : List Word) → is_name n ≡ true → name (Plain n ∷ more) ≡ Ok (n, more)
name_again n more h = word_read name_of_text kind.BadName n n more (cond-true _ _ _ h)

-- ---- sizes and lists

pub size_is : (ws : List Word) (r : ℕ × List Word) → size ws ≡ Ok r → WordRead size_of_text ws r
size_is ws r h = word_is size_of_text kind.BadNumber ws r refl h

pub list_is : (ws : List Word) (r : List ℕ × List Word) → list ws ≡ Ok r → WordRead list_of_text ws r
list_is ws r h = word_is list_of_text kind.BadNumber ws r refl h
