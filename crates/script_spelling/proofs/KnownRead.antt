-- Each line between the head and `data` says a statement, and what is known at `data` is what the statements say.
use Rattle.script_spelling.proofs.Words.{◌≡◌, ◌∙◌, ℕ, ◌+◌, List, [], ◌∷◌, ◌++◌, map, Bool, true, false, cond, ◌==◌, Option, Some, None, Result, Ok, refl, sym, ap, subst, append-nil, arith, bytes_eq, codes, AllZip, faultless_some, ScriptKind, Word, Plain, Quoted, Broken, Line, ◌>>=◌, or_fault, definition, addition, Known, known_after, at_line, data_line, definition_step, definitions, Statement, Says, nat_tests}
use Rattle.script_spelling.proofs.Steps.{went, same_ok, whole_value, tested, looked, carried}
use Rattle.script_spelling.proofs.Places.{bytes_same}
use Rattle.script_spelling.proofs.CallCounts.{line_ok}
use Rattle.script_spelling.proofs.GrownVars.{none_grown}
use Rattle.script_spelling.proofs.CallLinesRead.{words_of}
use Rattle.script_spelling.proofs.TakenLines.{Part, Grown, Fine, Taken, ranks_taken, hint_taken}
use Rattle.script_spelling.proofs.NewDefinitions.{defined_next, at_first, definition_taken}
use Rattle.script_spelling.proofs.AddedDefinitions.{added_next, addition_taken}
use Rattle.nc_base.specs.declared.errors.ScriptKind.TheVariants as kind

-- ---- each line

abbrev pub lines_version : Bool → ℕ → ℕ
lines_version opened version = cond opened 5 version

content_taken : (opened : Bool) (version : ℕ) (k next : Known) (first : List ℕ) (ws : List Word) → Fine k
    → elim opened as (λ x. Result Known ScriptKind) [
      | true ↦ (addition k.values k.added first ws >>= λ x. Ok (record k { added = x.1; values = k.values + x.0 }))
      | false ↦ (definition version k.values k.defined first ws >>= λ x. Ok (record k { defined = x.1; values = k.values + x.0 }))
    ] ≡ Ok next → Taken opened (lines_version opened version) k (Plain first ∷ ws) next
content_taken true version k next first ws fine h =
    let a = went (addition k.values k.added first ws) (λ x. Ok (added_next k x)) next h in
    subst (Taken true 5 k (Plain first ∷ ws)) (same_ok (added_next k a.value) next a.rest) (addition_taken k first ws a.value fine a.first)
content_taken false version k next first ws fine h =
    let a = went (definition version k.values k.defined first ws) (λ x. Ok (defined_next k x)) next h in
    subst (Taken false version k (Plain first ∷ ws)) (same_ok (defined_next k a.value) next a.rest) (definition_taken version k first ws a.value fine a.first)

known_taken : (opened : Bool) (version : ℕ) (k next : Known) (first : List ℕ) (ws : List Word) → (version == 0) ≡ opened → Fine k → known_after version k first ws ≡ Ok next → Taken opened (lines_version opened version) k (Plain first ∷ ws) next
known_taken opened version k next first ws e fine h =
    tested (bytes_eq first (codes "ranks")) _ _ _ h (λ a g. at_first opened _ k next first (codes "ranks") ws a (ranks_taken opened _ k ws next fine g))
    (λ a l. tested (bytes_eq first (codes "hint")) _ _ _ l (λ b g. at_first opened _ k next first (codes "hint") ws b (hint_taken opened _ k ws next fine g))
    (λ b g. content_taken opened version k next first ws fine (subst (λ (b : Bool). elim b as (λ x. Result Known ScriptKind) [
      | true ↦ (addition k.values k.added first ws >>= λ x. Ok (record k { added = x.1; values = k.values + x.0 }))
      | false ↦ (definition version k.values k.defined first ws >>= λ x. Ok (record k { defined = x.1; values = k.values + x.0 }))
    ] ≡ Ok next) e g)))

-- ---- all lines up to `data`

pub record DefinitionsRead (opened : Bool) (version : ℕ) (k : Known) (lines : List Line) (r : ℕ × (Known × List Line)) : Type 0 where
  pub own : List (List Word)
  pub are : map words_of lines ≡ own ++ (Plain (codes "data") ∷ []) ∷ map words_of r.1.1
  pub statements : List Statement
  pub say : AllZip (Says version) own statements
  pub grown : Grown opened k statements r.1.0
  pub ranks : r.1.0.ranks ≡ Some r.0

same_part : (opened : Bool) (k : Known) → Part opened k [] k
same_part true k = (refl, sym (append-nil k.added.extras), tt)
same_part false k = (refl, sym (append-nil k.defined.dims), sym (append-nil k.defined.attrs), sym (none_grown k.defined.dims k.defined.vars), tt)

-- a line is `data`, or says a statement
abbrev StepTaken : Bool → ℕ → Known → List Word → Option ℕ × Known → Type 0
StepTaken opened version k words (Some n, next) = (words ≡ Plain (codes "data") ∷ []) × (next ≡ k) × (k.ranks ≡ Some n)
StepTaken opened version k words (None, next) = Taken opened (lines_version opened version) k words next

step_taken : (opened : Bool) (version : ℕ) (k : Known) (w : Word) (ws : List Word) (s : Option ℕ × Known) → (version == 0) ≡ opened → Fine k → definition_step version k w ws ≡ Ok s → StepTaken opened version k (w ∷ ws) s
step_taken opened version k Broken ws s e fine h = absurd (cc)
step_taken opened version k (Quoted text) ws s e fine h = grind (arith, nat_tests, went)
step_taken opened version k (Plain first) ws s e fine h =
    tested (bytes_eq first (codes "data")) _ _ _ h
    (λ f g.
    let a = went (data_line k ws) _ s g in
    let b = went (or_fault kind.MissingWord k.ranks) _ a.value a.first in
    grind (arith, nat_tests, whole_value (b.value, ws) a.value b.rest, bytes_same first (codes "data") f, same_ok (Some a.value, k) s a.rest, faultless_some kind.MissingWord k.ranks b.value b.first, StepTaken))
    (λ f g.
    let a = went (known_after version k first ws) _ s g in
    subst (StepTaken opened version k (Plain first ∷ ws)) (same_ok (None, a.value) s a.rest) (known_taken opened version k a.value first ws e fine a.first))

more_said : (opened : Bool) (version : ℕ) (k next : Known) (l : Line) (lines : List Line) (r : ℕ × (Known × List Line)) → Taken opened version k (words_of l) next → DefinitionsRead opened version next lines r → DefinitionsRead opened version k (l ∷ lines) r
more_said opened version k next l lines r taken more = record {
  own = words_of l ∷ more.own;
  are = ap (λ (xs : List (List Word)). words_of l ∷ xs) more.are;
  statements = taken.statement ∷ more.statements;
  say = (taken.says, more.say);
  grown = taken.grown more.statements r.1.0 more.grown;
  ranks = more.ranks;
}

pub definitions_read : (opened : Bool) (past version : ℕ) (k : Known) (lines : List Line) (r : ℕ × (Known × List Line)) → (version == 0) ≡ opened → Fine k → definitions past version k lines ≡ Ok r
    → DefinitionsRead opened (lines_version opened version) k lines r
definitions_read opened past version k [] r e fine h = absurd (cc)
definitions_read opened past version k (l ∷ lines) r e fine h =
    let a = carried (at_line l.number (definition_step version k l.first l.rest)) _ r h in
    let told = step_taken opened version k l.first l.rest a.value e fine (line_ok l.number _ a.value a.first) in
    let next = a.value.1 in
    let said = λ (o : Option ℕ) (i : a.value.0 ≡ o). subst (λ (x : Option ℕ). StepTaken opened version k (words_of l) (x, next)) i told in
    looked a.value.0 _ _ _ a.rest
    (λ i g. more_said opened (lines_version opened version) k next l lines r (said None i) (definitions_read opened past version next lines r e (said None i).fine g))
    (λ n i g.
    let taken = said (Some n) i in
    subst (DefinitionsRead opened (lines_version opened version) k (l ∷ lines)) (ap (λ (x : Known). (n, (x, lines))) (sym taken.1) ∙ same_ok (n, (next, lines)) r g)
    (record { own = []; are = ap (λ (xs : List Word). xs ∷ map words_of lines) taken.0; statements = []; say = tt; grown = grind (arith, nat_tests, append-nil, same_part); ranks = taken.2 }))
