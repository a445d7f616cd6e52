-- What the lines after `open` add to a dataset.
use Rattle.script_laws.proofs.Words.{◌≡◌, ℕ, ◌+◌, ◌≤◌, List, length, true, Err, IfOk, arith, bytes_eq, codes, lt-ltb, le-leb, AllByRecursion, each_push, Dim, most_dims, most_vars, most_dims_of_var, most_values, added_dims, added_vars, is_lawful_extra, is_whole_extra, values_in_extra, extra_values, Word, reads_as, ended, dim_line, var_head, owner_of_text, owner_name, attribute, Added, added_shape, dim_addition, var_addition, att_addition, addition, nat_tests, ltb-false, common_steps, and_second}
use Rattle.nc_base.specs.declared.errors.ScriptKind.TheVariants as kind
use Rattle.nc_base.specs.declared.script.Extra.TheVariants as extra
use Rattle.script_laws.proofs.ListLaws.{count_more, sum_more}
use Rattle.script_laws.proofs.StepLaws.{first_then, then_with, by_test, unless_refused}
use Rattle.script_laws.proofs.DimLaws.{NewDim, dim_read, NewAttr, attribute_read, NewHead, head_read}

pub record FitsAdded (d : Added) : Type 0 where
  pub dims : added_dims d.extras ≡ length d.dims
  pub few_dims : length d.dims ≤ most_dims
  pub vars : added_vars d.extras ≡ length d.vars
  pub few_vars : length d.vars ≤ most_vars
  pub each : AllByRecursion (λ x. is_lawful_extra x ≡ true) d.extras
  pub whole : AllByRecursion (λ x. is_whole_extra x ≡ true) d.extras

-- what a line gives: what is added, with so many values more
pub record FitsAddition (before : ℕ) (old : Added) (r : ℕ × Added) : Type 0 where
  pub fits : FitsAdded r.1
  pub few : before + r.0 ≤ most_values
  pub held : extra_values r.1.extras ≤ extra_values old.extras + r.0

added_shaped : (dims : List Dim) (ws : List Word) → IfOk (added_shape dims ws) (λ r. length r.0 ≤ most_dims_of_var)
added_shaped dims ws = grind (arith, nat_tests, first_then, then_with, unless_refused, ltb-false)

pub addition_read : (before : ℕ) (d : Added) (first : List ℕ) (ws : List Word) → before ≤ most_values → FitsAdded d → IfOk (addition before d first ws) (FitsAddition before d)
addition_read before d first ws h f =
    by_test (bytes_eq first (codes "dim")) (dim_addition d ws) _ (FitsAddition before d) (λ _.
    then_with (dim_line 5 d.dims ws) _ _ (NewDim 5 d.dims) (dim_read 5 d.dims ws) (λ x new.
    grind (arith, common_steps, lt-ltb, sum_more values_in_extra d.extras (extra.Dim x), count_more, each_push))) (λ _.
    by_test (bytes_eq first (codes "var")) (var_addition d ws) _ (FitsAddition before d) (λ _.
    then_with (var_head 5 d.vars ws) _ _ (λ r. NewHead 5 d.vars r.0.0 r.0.1) (head_read 5 d.vars ws) (λ v head.
    then_with (added_shape d.dims v.1) _ _ (λ r. length r.0 ≤ most_dims_of_var) (added_shaped d.dims v.1) (λ names few.
    first_then (ended names.1) _ _ (grind (arith, common_steps, le-leb, sum_more values_in_extra d.extras (extra.Var v.0.0 v.0.1 names.0), count_more, each_push)))))
    (λ _. by_test (bytes_eq first (codes "att")) (att_addition before d ws) (Err kind.UnknownWord) (FitsAddition before d) (λ _.
    first_then (reads_as owner_of_text kind.BadName ws) _ _ (λ o _.
    then_with (attribute 5 d.titles before o.0 o.1) _ _ (NewAttr 5 before) (attribute_read 5 d.titles before o.0 o.1 h) (λ a new.
    grind (arith, common_steps, sum_more values_in_extra d.extras (extra.Att (owner_name o.0) a), and_second, count_more, each_push)))) (λ _. tt)))
