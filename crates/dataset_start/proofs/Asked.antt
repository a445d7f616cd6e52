-- What the text of a source asks for, and what it doesn't.
use Rattle.dataset_start.proofs.Words.{◌≡◌, List, Option, Some, None, inl, inr, ap, ℕ, IfSome, IsSomeAnd, Result, Reads, Script, ScriptErr, fault_of, script_fault, Asks, AsksFor, AsksForBadLayout, IsFaultless, IsFaultyFile, IsFaultyText, IsSoundFile, IsWrong, creation_fault, holds_or_not, some_not_none, arith, nat_tests}
use Rattle.dataset_start.proofs.ReadyLaws.{laid-mislaid, of_bad_layout}

-- ---- a text that is read has no fault

no_fault : (text : List ℕ) (script : Script) → Reads text script → script_fault text ≡ None
no_fault text script r = ap (λ (told : Result Script ScriptErr). fault_of told) r

pub read-faulty : {Q : Type 0} (text : List ℕ) (script : Script) (e : ScriptErr) → Reads text script → script_fault text ≡ Some e → Q
read-faulty text script e r f = absurd (some_not_none e (script_fault text) f (no_fault text script r))

-- it is not refused
pub not_unread : {Q : Type 0} (left : Option (List ℕ)) (script : Script) → Asks left script → IsSomeAnd left IsFaultyText → Q
not_unread left script a r = grind (arith, nat_tests)

-- ---- the dataset that it asks for

-- what has no fault is not wrong
faultless-wrong : (script : Script) (held : Option (List ℕ)) → IsFaultless script held → IsWrong script held → ⊥
faultless-wrong script held n w = elim (holds_or_not script.fresh) [
  | inl f ↦ let c = w.created f in some_not_none c.0 (creation_fault script) c.1 (n.created f)
  | inr f ↦ of_opened held (n.opened f) (w.opened f)
]
  where
    of_opened : (h : Option (List ℕ)) → IfSome h (IsSoundFile script) → IsSomeAnd h (IsFaultyFile script) → ⊥
    of_opened None f g = absurd g
    of_opened (Some file) f (inl g) = f.header g.0 g.1
    of_opened (Some file) f (inr g) = f.redefinition g.0 g.1

-- what a text asks for is so of the script that it spells
pub asked_for : (P : Script → Option (List ℕ) → Type 0) (left held : Option (List ℕ)) (script : Script) → Asks left script
    → IsSomeAnd left (λ text. AsksFor P text held) → P script held
asked_for P left held script a w = grind (arith, nat_tests)

-- where nothing is wrong with it, it is not one that is wrong, nor one that can't be laid out
pub not_wrong : {Q : Type 0} (left held : Option (List ℕ)) (script : Script) → Asks left script → IsFaultless script held
    → IsSomeAnd left (λ text. AsksFor IsWrong text held) → Q
not_wrong left held script a n w = absurd (faultless-wrong script held n (asked_for IsWrong left held script a w))

pub not_mislaid : {Q : Type 0} (left held : Option (List ℕ)) (script : Script) → Asks left script → IsFaultless script held → IsSomeAnd left AsksForBadLayout → Q
not_mislaid left held script a n = of_bad_layout left script a (laid-mislaid script n.created)
