-- What is defined after a line, and what is known then.
use Rattle.script_laws.proofs.Words.{◌≡◌, ℕ, zero, suc, ◌+◌, ◌≤◌, sum, map, List, [], ◌∷◌, ◌++◌, length, replicate, true, false, Option, Some, None, Ok, IfOk, IfSome, subst, arith, ◌==◌, count_by, slice_set, bytes_eq, codes, length-append, is_some, AllByRecursion, same_Some, each_push, each_weaker, Dim, Attr, Var, most_dims, most_vars, most_values, attr_values, extra_values, Word, ◌>>=◌, reads_as, HintForm, Within, Either, hint_form, hint_in, hint_of_text, hint_value, hint_line, ranks_line, is_unlimited, dim_line, var_line, owner_of_text, owner_place, attribute, Defined, no_definition, with_dim, with_var, with_attr_of_owner, with_title, att_line, dim_definition, var_definition, definition, nothing_added, Known, nothing_known, addition, known_after, nat_tests, common_steps, nat_le, and_first, and_second, eqb-true, leb-true, cond_some}
use Rattle.nc_base.specs.declared.errors.ScriptKind.TheVariants as kind
use Rattle.script_laws.proofs.ListLaws.{sum_more}
use Rattle.script_laws.proofs.StepLaws.{first_then, then_with, by_test}
use Rattle.script_laws.proofs.WordLaws.{InRange}
use Rattle.script_laws.proofs.AddedLaws.{FitsAdded, FitsAddition, addition_read}
use Rattle.script_laws.proofs.DimLaws.{values_placed, FitsDim, NewDim, dim_read, one_more, FitsAttr, NewAttr, attribute_read, FitsVar, wider, later, NewVar, var_read, attr_placed, length-placed}

-- ---- the definitions of a new dataset, after so many lines

pub record FitsDefined (version lines : ℕ) (d : Defined) : Type 0 where
  pub few_dims : length d.dims ≤ most_dims
  pub dims : AllByRecursion (FitsDim version) d.dims
  pub one_record : count_by is_unlimited d.dims ≤ 1
  pub few_vars : length d.vars ≤ most_vars
  pub vars : AllByRecursion (FitsVar version lines d.dims) d.vars
  pub few_attrs : length d.attrs ≤ lines
  pub attrs : AllByRecursion (FitsAttr version) d.attrs

later_defined : (version lines more : ℕ) → lines ≤ more → (d : Defined) → FitsDefined version lines d → FitsDefined version more d
later_defined version lines more h d f = grind (arith, nat_tests, later version lines more d.dims h, each_weaker)

dim_fits : (version lines : ℕ) (d : Defined) (x : Dim) → FitsDefined version lines d → NewDim version d.dims x → FitsDefined version lines (with_dim x d)
dim_fits version lines d x f new =
    let vars = each_weaker (FitsVar version lines d.dims) (FitsVar version lines (d.dims ++ x ∷ [])) (wider version lines d.dims x) d.vars f.vars in
    grind (arith, nat_tests, length-append d.dims (x ∷ []), each_push (FitsDim version) d.dims x f.dims new.fits, one_more d.dims x f.one_record new.once, vars)

var_fits : (version lines : ℕ) (d : Defined) (x : Var) → FitsDefined version lines d → NewVar version lines d.dims d.vars x → FitsDefined version lines (with_var x d)
var_fits version lines d x f new = grind (arith, nat_tests, length-append d.vars (x ∷ []), each_push (FitsVar version lines d.dims) d.vars x f.vars new.fits)

attr_fits : (version lines : ℕ) (d : Defined) (k : Option ℕ) (a : Attr) (owner : List ℕ) → FitsDefined version lines d → FitsAttr version a
    → FitsDefined version (suc lines) (with_title owner a.name (with_attr_of_owner k a d))
attr_fits version lines d k a owner f fits =
    grind (arith, nat_tests, later_defined version lines (suc lines) (omega arith) d f, length-append d.attrs (a ∷ []), each_push (FitsAttr version) d.attrs a f.attrs fits, length-placed, attr_placed version lines d.dims)

filled_fits : (version lines : ℕ) (d : Defined) → FitsDefined version lines d → FitsDefined version lines (record d { filled = true })
filled_fits version lines d f = grind (arith, nat_tests)

-- the values of all attributes
abbrev pub defined_values : Defined → ℕ
defined_values d = attr_values d.attrs + sum (map (λ (v : Var). attr_values v.attrs) d.vars)

var_values : (d : Defined) (x : Var) → attr_values x.attrs ≡ 0 → defined_values (with_var x d) ≤ defined_values d
var_values d x none = omega (arith, sum_more (λ (v : Var). attr_values v.attrs) d.vars x)

more_values : (d : Defined) (k : Option ℕ) (a : Attr) (owner : List ℕ) → defined_values (with_title owner a.name (with_attr_of_owner k a d)) ≤ defined_values d + a.count
more_values d None a owner = omega (arith, sum_more (λ (b : Attr). b.count) d.attrs a)
more_values d (Some k) a owner = omega (arith, values_placed k a d.vars)

-- what a line gives: what is defined, with so many values more
pub record FitsLine (version lines before : ℕ) (old : Defined) (r : ℕ × Defined) : Type 0 where
  pub fits : FitsDefined version (suc lines) r.1
  pub few : before + r.0 ≤ most_values
  pub held : defined_values r.1 ≤ defined_values old + r.0

defined_after : (version lines before : ℕ) (d : Defined) (first : List ℕ) (ws : List Word) → before ≤ most_values → FitsDefined version lines d
    → IfOk (definition version before d first ws) (FitsLine version lines before d)
defined_after version lines before d first ws h f =
    by_test (bytes_eq first (codes "dim")) (dim_definition version d ws) _ (FitsLine version lines before d) (λ _.
    then_with (dim_line version d.dims ws) _ _ (NewDim version d.dims) (dim_read version d.dims ws)
    (λ x new. record { fits = later_defined version lines (suc lines) (omega arith) (with_dim x d) (dim_fits version lines d x f new); few = omega arith; held = omega arith })) (λ _.
    by_test (bytes_eq first (codes "var")) (var_definition version d ws) _ (FitsLine version lines before d) (λ _.
    then_with (var_line version d.dims d.vars ws) _ _ (NewVar version lines d.dims d.vars) (var_read version lines d.dims d.vars ws) (λ x new. record {
      fits = later_defined version lines (suc lines) (omega arith) (with_var x d) (var_fits version lines d x f new);
      few = omega arith;
      held = let none = var_values d x new.none in omega arith;
    })) (λ _.
    by_test (bytes_eq first (codes "att")) (att_line version before d ws) _ (FitsLine version lines before d) (λ _.
    first_then (reads_as owner_of_text kind.BadName ws) _ _ (λ o _.
    first_then (owner_place d.vars o.0) _ _ (λ k _.
    then_with (attribute version d.titles before o.0 o.1) _ _ (NewAttr version before) (attribute_read version d.titles before o.0 o.1 h)
    (λ a new. record { fits = attr_fits version lines d k a o.0 f new.fits; few = new.few; held = more_values d k a o.0 })))) (λ _.
    grind (arith, nat_tests, by_test, first_then, filled_fits version lines d f, later_defined version lines (suc lines)))))

-- ---- hints

abbrev pub FitsForm : HintForm → ℕ → Type 0
FitsForm (Within low high unit) n = InRange low high unit n
FitsForm (Either zero_word one_word) n = n ≤ 1

abbrev pub FitHints : List (Option ℕ) → Type 0
FitHints hints = (h n : ℕ) → hint_in h hints ≡ Some n → FitsForm (hint_form h) n

value_read : (form : HintForm) (ws : List Word) → IfOk (hint_value form ws) (λ r. FitsForm form r.0)
value_read form ws = grind (arith, nat_tests)

hint_read : (hints : List (Option ℕ)) (ws : List Word) → IfOk (hint_line hints ws) (λ r. FitsForm (hint_form r.0) r.1)
hint_read hints ws = first_then (reads_as hint_of_text kind.UnknownWord ws) _ _ (λ h _. grind (arith, nat_tests, first_then, then_with, value_read (hint_form h.0) h.1))

no_hint : (m h n : ℕ) → hint_in h (replicate m None) ≡ Some n → ⊥
no_hint (suc m) (suc h) n e = no_hint m h n e
no_hint m h n e = cc

one_hint : (F : ℕ → ℕ → Type 0) (hints : List (Option ℕ)) (k v : ℕ) → ((h n : ℕ) → hint_in h hints ≡ Some n → F h n) → F k v
    → (h n : ℕ) → hint_in h (slice_set hints k (Some v)) ≡ Some n → F h n
one_hint F (o ∷ os) zero v f p zero n e = let same : v ≡ n = same_Some v n e in subst (F zero) same p
one_hint F (o ∷ os) (suc k) v f p (suc h) n e = one_hint (λ i m. F (suc i) m) os k v (λ i m q. f (suc i) m q) p h n e
one_hint F hints k v f p h n e = f h n e

ranks_read : (ranks : Option ℕ) (ws : List Word) → IfOk (ranks_line ranks ws) (InRange 1 64 1)
ranks_read ranks ws = grind (arith, nat_tests, is_some ranks, first_then, then_with, nat_le, and_first, and_second, eqb-true, leb-true, cond_some)

-- ---- what is known after so many lines; version 0 is that of an existing dataset

pub record FitsKnown (version lines : ℕ) (known : Known) : Type 0 where
  pub ranks : IfSome known.ranks (InRange 1 64 1)
  pub hints : FitHints known.hints
  pub few : known.values ≤ most_values
  pub fresh : (version == 0) ≡ false → FitsDefined version lines known.defined
  pub old : (version == 0) ≡ true → known.defined ≡ no_definition
  pub none_added : (version == 0) ≡ false → known.added ≡ nothing_added
  pub added : FitsAdded known.added
  pub held : defined_values known.defined + extra_values known.added.extras ≤ known.values

pub nothing_known_fits : (version lines : ℕ) → FitsKnown version lines nothing_known
nothing_known_fits version lines = grind (arith, nat_tests, no_hint)

pub later_known : (version lines more : ℕ) → lines ≤ more → (known : Known) → FitsKnown version lines known → FitsKnown version more known
later_known version lines more h known f = grind (arith, nat_tests, later_defined version lines more h known.defined)

pub known_more : (version lines : ℕ) (known : Known) (first : List ℕ) (ws : List Word) → FitsKnown version lines known
    → IfOk (known_after version known first ws) (FitsKnown version (suc lines))
known_more version lines known first ws f =
    let same = later_known version lines (suc lines) (omega arith) known f in
    by_test (bytes_eq first (codes "ranks")) (ranks_line known.ranks ws >>= λ n. Ok (record known { ranks = Some n })) _ _ (λ _.
    then_with (ranks_line known.ranks ws) _ _ (InRange 1 64 1) (ranks_read known.ranks ws)
    (λ n fits. record { ranks = fits; hints = f.hints; few = f.few; fresh = same.fresh; old = f.old; none_added = f.none_added; added = f.added; held = f.held })) (λ _.
    by_test (bytes_eq first (codes "hint")) (hint_line known.hints ws >>= λ h. Ok (record known { hints = slice_set known.hints h.0 (Some h.1) })) _ _ (λ _.
    then_with (hint_line known.hints ws) _ _ (λ r. FitsForm (hint_form r.0) r.1) (hint_read known.hints ws) (λ h fits.
    grind (arith, common_steps, one_hint (λ k n. FitsForm (hint_form k) n) known.hints h.0 h.1 f.hints fits))) (λ _.
    by_test (version == 0) (addition known.values known.added first ws >>= λ x. Ok (record known { added = x.1; values = known.values + x.0 })) _ _ (λ e.
    then_with (addition known.values known.added first ws) _ _ (FitsAddition known.values known.added) (addition_read known.values known.added first ws f.few f.added) (grind (arith, common_steps))) (λ e.
    then_with (definition version known.values known.defined first ws) _ _ (FitsLine version lines known.values known.defined)
    (defined_after version lines known.values known.defined first ws f.few (f.fresh e)) (grind (arith, common_steps)))))
