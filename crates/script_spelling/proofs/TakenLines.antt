-- What later statements add to what is known; a line of ranks or of a hint.
use Rattle.script_spelling.proofs.Words.{◌≡◌, ◌∙◌, ℕ, ◌+◌, ◌<◌, List, ◌∷◌, ◌++◌, length, Bool, true, false, cond, ◌==◌, Option, Some, None, slice_set, Ok, ap, subst, length-set, arith, bytes_eq, codes, eqb-true, equal_true, entry_below, entry_set, entry_set_other, position_below, Word, Plain, ◌>>=◌, hint_table, hint_in, hint_line, ranks_line, var_names, Known, Statement, RanksAre, HintIs, Says, Stand, ranks_in, hint_values, fills_in, dims_in, vars_in, own_attrs, attrs_of, extras_in, at_most_one, nat_tests}
use Rattle.script_spelling.proofs.Steps.{went, same_ok}
use Rattle.script_spelling.proofs.LinesRead.{ranks_said, hint_said}
use Rattle.script_spelling.proofs.GrownVars.{are_apart, grown_vars}

-- ---- what later statements add to what is known

abbrev pub flag : Bool → ℕ
flag b = cond b 1 0

-- of a dataset that is opened, or of a new one
abbrev pub Part : Bool → Known → List Statement → Known → Type 0
Part true k ss last =
    (last.defined ≡ k.defined) × (last.added.extras ≡ k.added.extras ++ extras_in ss) × Stand true k.added.dims k.added.vars k.added.titles ss
Part false k ss last =
    (last.added.extras ≡ k.added.extras) × (last.defined.dims ≡ k.defined.dims ++ dims_in ss) × (last.defined.attrs ≡ k.defined.attrs ++ own_attrs ss)
    × (last.defined.vars ≡ grown_vars last.defined.dims (λ n. attrs_of n ss) k.defined.vars (vars_in ss))
    × Stand false k.defined.dims (var_names k.defined.vars) k.defined.titles ss

pub record Grown (opened : Bool) (k : Known) (ss : List Statement) (last : Known) : Type 0 where
  pub ranks : at_most_one last.ranks ≡ at_most_one k.ranks ++ ranks_in ss
  pub hints : (h : ℕ) → at_most_one (hint_in h last.hints) ≡ at_most_one (hint_in h k.hints) ++ hint_values h ss
  pub filled : flag last.defined.filled ≡ flag k.defined.filled + fills_in ss
  pub part : Part opened k ss last

pub grown_with : {opened : Bool} {k : Known} {ss : List Statement} {last : Known} → at_most_one last.ranks ≡ at_most_one k.ranks ++ ranks_in ss
    → ((h : ℕ) → at_most_one (hint_in h last.hints) ≡ at_most_one (hint_in h k.hints) ++ hint_values h ss)
    → flag last.defined.filled ≡ flag k.defined.filled + fills_in ss → Part opened k ss last → Grown opened k ss last
grown_with a b c d = record { ranks = a; hints = b; filled = c; part = d }

-- what holds of all that is known
pub record Fine (k : Known) : Type 0 where
  pub long : length k.hints ≡ 10
  pub apart : are_apart (var_names k.defined.vars) ≡ true

-- a line that says a statement, and what is known after it
pub record Taken (opened : Bool) (version : ℕ) (k : Known) (words : List Word) (next : Known) : Type 0 where
  pub statement : Statement
  pub says : Says version words statement
  pub fine : Fine next
  pub grown : (ss : List Statement) (last : Known) → Grown opened next ss last → Grown opened k (statement ∷ ss) last

-- ---- ranks and hints

pub ranks_taken : (opened : Bool) (version : ℕ) (k : Known) (ws : List Word) (next : Known) → Fine k → (ranks_line k.ranks ws >>= λ n. Ok (record k { ranks = Some n })) ≡ Ok next → Taken opened version k (Plain (codes "ranks") ∷ ws) next
ranks_taken opened version k ws next fine h =
    let a = went (ranks_line k.ranks ws) (λ n. Ok (record k { ranks = Some n })) next h in
    let n = a.value in
    let said = ranks_said version k.ranks ws n a.first in
    subst (Taken opened version k (Plain (codes "ranks") ∷ ws)) (same_ok (record k { ranks = Some n }) next a.rest) (record {
      statement = RanksAre n;
      says = said.0;
      fine = record { long = fine.long; apart = fine.apart };
      grown = λ ss last g. grind (arith, nat_tests, said.1, g.ranks, g.hints, g.filled, g.part, grown_with);
    })

abbrev hint_by : Option (Option ℕ) → Option ℕ
hint_by o = elim o [ None ↦ None | Some x ↦ x ]

pub hint_here : (hints : List (Option ℕ)) (i v : ℕ) → i < length hints → hint_in i (slice_set hints i (Some v)) ≡ Some v
hint_here hints i v low = let x = entry_below hints i low in ap hint_by (entry_set hints i x.0 (Some v) x.1)

pub hint_elsewhere : (hints : List (Option ℕ)) (i j v : ℕ) → (j ≡ i → ⊥) → hint_in j (slice_set hints i (Some v)) ≡ hint_in j hints
hint_elsewhere hints i j v other = ap hint_by (entry_set_other hints i j (Some v) other)

pub differ : (i j : ℕ) → (i == j) ≡ false → i ≡ j → ⊥
differ i j e same = let equal = equal_true i j same in absurd (cc)

pub hint_taken : (opened : Bool) (version : ℕ) (k : Known) (ws : List Word) (next : Known) → Fine k → (hint_line k.hints ws >>= λ h. Ok (record k { hints = slice_set k.hints h.0 (Some h.1) })) ≡ Ok next
    → Taken opened version k (Plain (codes "hint") ∷ ws) next
hint_taken opened version k ws next fine h =
    let a = went (hint_line k.hints ws) (λ x. Ok (record k { hints = slice_set k.hints x.0 (Some x.1) })) next h in
    let i = a.value.0 in
    let v = a.value.1 in
    let hints = slice_set k.hints i (Some v) in
    let said = hint_said version k.hints ws a.value a.first in
    let low : i < length k.hints = omega (arith, fine.long, position_below (λ row. bytes_eq said.says.0 row.word) hint_table i said.says.3) in
    subst (Taken opened version k (Plain (codes "hint") ∷ ws)) (same_ok (record k { hints = hints }) next a.rest) (record {
      statement = HintIs i v;
      says = said.says;
      fine = record { long = length-set k.hints i (Some v) ∙ fine.long; apart = fine.apart };
      grown = λ ss last g.
          let first : (j : ℕ) → at_most_one (hint_in j last.hints) ≡ at_most_one (hint_in j k.hints) ++ hint_values j (HintIs i v ∷ ss) =
          λ j. grind (arith, nat_tests, eqb-true, slice_set, hint_here, hint_elsewhere, differ, g.hints j, said.free, low) in
          grown_with g.ranks first g.filled (grind (arith, nat_tests, g.part));
    })
