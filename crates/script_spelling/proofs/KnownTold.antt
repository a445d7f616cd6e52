-- Lines that say statements are read up to `data`, and what is known then is what the statements say.
use Rattle.script_spelling.proofs.Words.{◌≡◌, ℕ, suc, ◌+◌, ◌≤◌, List, [], ◌∷◌, ◌++◌, map, drop, Bool, true, false, ◌==◌, Option, Some, unwrap_or, Result, Ok, Err, refl, ap, append-nil, arith, codes, AllZip, first_same, ScriptKind, Hints, most_values, Word, Plain, Line, HintRow, hint_table, hint_in, hint_or, no_hints, set_hints, hints_of, Known, definition_step, definitions, Statement, Says, nat_tests}
use Rattle.script_spelling.proofs.Leading.{step_again}
use Rattle.script_spelling.proofs.CallLinesRead.{words_of}
use Rattle.script_spelling.proofs.TakenLines.{Grown}
use Rattle.script_spelling.proofs.KnownRead.{lines_version}
use Rattle.script_spelling.proofs.GrownVars.{none_grown}
use Rattle.script_spelling.proofs.DefinitionsTold.{total, Sound, led}
use Rattle.nc_base.specs.declared.errors.ScriptKind.TheVariants as kind

-- ---- all lines up to `data`

-- what is known at `data`, and the lines that follow it
pub record DefinitionsTold (opened : Bool) (past version n : ℕ) (k : Known) (lines : List Line) (more : List (List Word)) (last : Known) : Type 0 where
  pub known : Known
  pub rest : List Line
  pub read : definitions past version k lines ≡ Ok (n, (known, rest))
  pub words : map words_of rest ≡ more
  pub sound : Sound known
  pub grown : Grown opened known [] last

abbrev step_by : ℕ → Known → List Word → Result (Option ℕ × Known) ScriptKind
step_by version k ws = elim ws [ [] ↦ Err kind.MissingWord | w ∷ more ↦ definition_step version k w more ]

pub definitions_told : (opened : Bool) (past version n : ℕ) (own : List (List Word)) (ss : List Statement) (k : Known) (lines : List Line) (more : List (List Word)) (last : Known) → (version == 0) ≡ opened → total last ≤ most_values
    → last.ranks ≡ Some n → Sound k → map words_of lines ≡ own ++ (Plain (codes "data") ∷ []) ∷ more → AllZip (Says (lines_version opened version)) own ss → Grown opened k ss last
    → DefinitionsTold opened past version n k lines more last
definitions_told opened past version n [] [] k [] more last e few ranks sound are say g = absurd (cc)
definitions_told opened past version n [] [] k (l ∷ lines) more last e few ranks sound are say g = grind (arith, nat_tests, first_same)
definitions_told opened past version n [] (s ∷ ss) k lines more last e few ranks sound are say g = absurd say
definitions_told opened past version n (ws ∷ own) [] k lines more last e few ranks sound are say g = absurd say
definitions_told opened past version n (ws ∷ own) (s ∷ ss) k [] more last e few ranks sound are say g = absurd (cc)
definitions_told opened past version n (ws ∷ own) (s ∷ ss) k (l ∷ lines) more last e few ranks sound are say g =
    let on = led opened version k ws s ss last e few sound say.0 g in
    grind (arith, nat_tests, first_same, step_again, definitions_told opened past version n own ss on.next lines more last e few ranks on.sound (ap (drop 1) are), say.1, on.grown, l.number, step_by)

-- ---- what is known then

-- the parts of a script, but its calls
pub record SameParts (k last : Known) : Type 0 where
  pub dims : k.defined.dims ≡ last.defined.dims
  pub vars : k.defined.vars ≡ last.defined.vars
  pub attrs : k.defined.attrs ≡ last.defined.attrs
  pub filled : k.defined.filled ≡ last.defined.filled
  pub extras : k.added.extras ≡ last.added.extras

pub same_parts : (opened : Bool) (k last : Known) → Grown opened k [] last → SameParts k last
same_parts true k last g = grind (arith, nat_tests, append-nil)
same_parts false k last g = grind (arith, nat_tests, g.part, append-nil, none_grown last.defined.dims k.defined.vars, g.filled)

same_rows : (rows : List HintRow) (i ranks : ℕ) (a b : List (Option ℕ)) (h : Hints) → ((j : ℕ) → hint_in j a ≡ hint_in j b) → set_hints rows i ranks a h ≡ set_hints rows i ranks b h
same_rows [] i ranks a b h same = refl
same_rows (row ∷ rows) i ranks a b h same = grind (arith, nat_tests, same_rows rows (suc i) ranks a b (row.set (hint_or b i (row.default ranks)) h) same, unwrap_or)

pub same_hints : (opened : Bool) (ranks : ℕ) (k last : Known) → Grown opened k [] last → hints_of ranks k.hints ≡ hints_of ranks last.hints
same_hints opened ranks k last g = same_rows hint_table 0 ranks k.hints last.hints no_hints (λ j. grind (arith, nat_tests, g.hints j))
