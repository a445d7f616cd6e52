-- Lines of a text and their words, steps that tell a fault, and the ids that are posted.
use Rattle.script_spec.proofs.Words.{◌≡◌, ℕ, ◌<◌, List, [], ◌∷◌, length, map, Option, Some, None, Ok, refl, arith, ScriptKind, Call, kinds, Line, Word, first_word, without_empty_end, or_fault, posted, id_of_post, mismatch, finish, nat_tests}

pub first_line_kept : (x : List ℕ) (zs : List (List ℕ)) → 0 < length zs → without_empty_end (x ∷ zs) ≡ x ∷ without_empty_end zs
first_line_kept x zs h = grind (arith, nat_tests)

-- the words of what is left of a line, where f tells those behind the first
abbrev pub more_words : (List ℕ → List Word) → List ℕ → List Word
more_words f rest = elim rest [ [] ↦ [] | c ∷ cs ↦ (let w = first_word c cs in w.0 ∷ f w.1) ]

pub faultless_some : {A : Type 0} (e : ScriptKind) (o : Option A) (x : A) → or_fault e o ≡ Ok x → o ≡ Some x
faultless_some e o x h = grind (arith, nat_tests)

pub one_posted : (c : Call) (id : ℕ) → id_of_post c ≡ Some id → posted (c ∷ []) ≡ id ∷ []
one_posted c id h = rw h refl

pub none_posted : (c : Call) → id_of_post c ≡ None → posted (c ∷ []) ≡ []
none_posted c h = rw h refl

-- ---- the end of a script

pub finished : (n : ℕ) (calls : List (List Call)) (ls : List Line) (u : Unit {0}) → finish n calls ls ≡ Ok u → mismatch (map (λ own. kinds own) calls) ≡ None
finished n calls ls u h = grind (arith, nat_tests)
