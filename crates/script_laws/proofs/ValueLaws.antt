-- The values of a line: few, each a number of 20 digits at most, and so many bytes.
use Rattle.script_laws.proofs.Words.{each_weaker, ◌≡◌, ◌∙◌, ℕ, ◌+◌, ◌*◌, ◌≤◌, List, [], ◌∷◌, ◌++◌, length, Bool, not, Option, IfOk, arith, nat_lt, is_some, flat_map, length-append, length-map-range_with_len, NcType, is_number, Values, Numbers, Text, Class, size_of, most_elements, most_values, count_of, Word, number_of_text, refuse_if, reads_as, ended, one_value, each_value, sequence_count, numbers_between, patterns_between, term, is_term, last_number, may_be, are_numbers, are_patterns, seq_values, seqx_values, pattern_values, number_for, pattern_for, listed_values, values, external_bytes, ext_long, nat_tests, ◌^◌, ◌<◌, true, Some, None, sym, subst, option_map, ℤ, pos, ◌+ℤ◌, ◌*ℤ◌, unsigned_abs, lt-ltb, le-leb, ltb-true, AllByRecursion, and_from, not-false, faultless_some, natural_small, each_push, and_first, are_values, sequence, ltb-false, common_steps}
use Rattle.list_laws.proofs.Common.{passes_each}
use Rattle.script_laws.proofs.Sequences.{is_fit_number, numbers_fit}
use Rattle.nc_base.specs.declared.errors.ScriptKind.TheVariants as kind
use Rattle.nc_base.specs.declared.errors.LimitName.TheVariants as limit
use Rattle.nc_base.specs.declared.request.Value.TheVariants as value
use Rattle.serial_spec.specs.ExternalForm as class
use Rattle.script_laws.proofs.ListLaws.{all_pass}
use Rattle.script_laws.proofs.StepLaws.{first_then, then_with, ok_then, by_test, unless_refused}

-- ---- a number

abbrev pub IsSmall : ℤ → Type 0
IsSmall z = unsigned_abs z < 10 ^ 20

pub number_small : (w : List ℕ) (z : ℤ) → number_of_text w ≡ Some z → IsSmall z
number_small [] z h = absurd (cc)
number_small (c ∷ cs) z h = grind (arith, nat_tests, option_map, natural_small cs, natural_small (c ∷ cs))

number_for_small : (t : Option NcType) (w : List ℕ) (z : ℤ) → number_for t w ≡ Some z → IsSmall z
number_for_small t w z h = grind (arith, nat_tests, number_small)

-- ---- the terms of a sequence

sequence_small : (t : Option NcType) (a b : ℤ) (n : ℕ) → is_term t n a ≡ true → is_term t n (last_number a b n) ≡ true → AllByRecursion IsSmall (sequence a b n)
sequence_small t a b n p q =
    each_weaker (λ z. is_fit_number t z ≡ true) IsSmall (λ z h. ltb-true _ _ (and_first _ _ h)) (sequence a b n) (passes_each (is_fit_number t) (sequence a b n) (numbers_fit t a b n p q))

-- ---- how many, for an attribute of a type or for a call

record FewMore (t : Option NcType) (before n : ℕ) : Type 0 where
  most : t ≡ None → n ≤ most_elements
  all : before + n ≤ most_values

record ListOf (A : Type 0) (P : A → Type 0) (t : Option NcType) (before : ℕ) (xs : List A) : Type 0 where
  good : AllByRecursion P xs
  few : FewMore t before (length xs)

module _ {A : Type 0} (f : List ℕ → Option A) (P : A → Type 0) (t : Option NcType) (before : ℕ) (read : (v : List ℕ) (x : A) → f v ≡ Some x → P x) where
  one_read : (n : ℕ) (w : Word) → IfOk (one_value f t before n w) (λ x. P x × FewMore t before (n + 1))
  one_read n w = grind (arith, nat_tests, first_then, then_with, faultless_some, is_some, nat_lt, unless_refused, ltb-false)

  each_read : (found : List A) (ws : List Word) → ListOf A P t before found → IfOk (each_value f t before found ws) (ListOf A P t before)
  each_read found [] all = all
  each_read found (w ∷ ws) all =
      ok_then (one_value f t before (length found) w) (λ x. each_value f t before (found ++ x ∷ []) ws) _ (λ x. P x × FewMore t before (length found + 1)) (one_read (length found) w)
      (λ x one. grind (arith, common_steps, each_read (found ++ x ∷ []) ws (record { good = each_push P found x all.good one.0; few = subst (FewMore t before) (sym (length-append found (x ∷ []))) one.1 }), each_push P found x all.good one.0))

  all_read : (ws : List Word) → before ≤ most_values → IfOk (each_value f t before [] ws) (ListOf A P t before)
  all_read ws h = each_read [] ws (record { good = tt; few = record { most = λ e. omega arith; all = omega arith } })

record IsSequence (n : ℕ) (zs : List ℤ) : Type 0 where
  long : length zs ≡ n
  small : AllByRecursion IsSmall zs

-- so many are not too many after those before, and those of a call are lawful
pub record FitsValues (t : Option NcType) (before : ℕ) (vs : Values) : Type 0 where
  pub lawful : t ≡ None → are_values vs ≡ true
  pub few : before + count_of vs ≤ most_values

module _ (t : Option NcType) (before : ℕ) where
  count_read : (suits : Bool) (ws : List Word) → IfOk (sequence_count suits t before ws) (λ n. FewMore t before n.0)
  count_read suits ws = grind (arith, nat_tests, first_then, nat_lt, then_with, is_some, unless_refused, ltb-false)

  term_read : (n : ℕ) (ws : List Word) → IfOk (term t n ws) (λ a. is_term t n a.0 ≡ true)
  term_read n ws = grind (arith, nat_tests, first_then, then_with, unless_refused)

  numbers_read : (n : ℕ) (ws : List Word) → IfOk (numbers_between t n ws) (IsSequence n)
  numbers_read n ws =
      then_with (term t n ws) _ _ (λ a. is_term t n a.0 ≡ true) (term_read n ws) (λ a first.
      first_then (reads_as number_of_text kind.BadNumber a.1) _ _ (λ b _.
      then_with (refuse_if (not (is_term t n (last_number a.0 b.0 n))) kind.BadNumber) _ _ (λ _. is_term t n (last_number a.0 b.0 n) ≡ true)
      (unless_refused _ kind.BadNumber _ (not-false (is_term t n (last_number a.0 b.0 n)))) (λ _ last.
      first_then (ended b.1) _ _ (λ _ _. record { long = length-map-range_with_len (λ k. a.0 +ℤ (b.0 *ℤ pos k)) 0 n; small = sequence_small t a.0 b.0 n first last }))))

  patterns_long : (n : ℕ) (ws : List Word) → IfOk (patterns_between t n ws) (λ ns. length ns ≡ n)
  patterns_long n ws = grind (arith, nat_tests, first_then, length-map-range_with_len)

  -- ---- the values

  all_numbers : (zs : List ℤ) → ListOf ℤ IsSmall t before zs → FitsValues t before (Numbers zs)
  all_numbers zs all = record { lawful = λ e. and_from _ _ (le-leb (length zs) most_elements (all.few.most e)) (all_pass is_number IsSmall (λ z h. lt-ltb _ _ h) zs all.good); few = all.few.all }

  patterns_fit : (ns : List ℕ) → FewMore t before (length ns) → FitsValues t before (pattern_values ns)
  patterns_fit ns few = grind (arith, nat_tests)

  seq_read : (ws : List Word) → IfOk (seq_values t before ws) (FitsValues t before)
  seq_read ws =
      then_with (sequence_count (may_be are_numbers t) t before ws) _ _ (λ n. FewMore t before n.0) (count_read (may_be are_numbers t) ws) (λ n few.
      then_with (numbers_between t n.0 n.1) _ _ (IsSequence n.0) (numbers_read n.0 n.1) (λ zs all. all_numbers zs (record { good = all.small; few = subst (FewMore t before) (sym all.long) few })))

  seqx_read : (ws : List Word) → IfOk (seqx_values t before ws) (FitsValues t before)
  seqx_read ws =
      then_with (sequence_count (may_be are_patterns t) t before ws) _ _ (λ n. FewMore t before n.0) (count_read (may_be are_patterns t) ws) (λ n few.
      then_with (patterns_between t n.0 n.1) _ _ (λ ns. length ns ≡ n.0) (patterns_long n.0 n.1) (λ ns long. patterns_fit ns (subst (FewMore t before) (sym long) few)))

  listed_read : (c : Class) (ws : List Word) → before ≤ most_values → IfOk (listed_values c t before ws) (FitsValues t before)
  listed_read class.Text ws h = tt
  listed_read class.Pattern ws h =
      then_with (each_value (pattern_for t) t before [] ws) _ _ (ListOf ℕ (λ _. Unit {0}) t before) (all_read (pattern_for t) (λ _. Unit {0}) t before (λ _ _ _. tt) ws h)
      (λ ns all. record { lawful = λ e. le-leb _ _ (all.few.most e); few = all.few.all })
  listed_read c ws h =
      then_with (each_value (number_for t) t before [] ws) _ _ (ListOf ℤ IsSmall t before) (all_read (number_for t) IsSmall t before (number_for_small t) ws h) all_numbers

  pub values_read : (ws : List Word) → before ≤ most_values → IfOk (values t before ws) (FitsValues t before)
  values_read ws h = grind (arith, nat_tests, first_then, then_with, ended, le-leb, by_test, seq_read, seqx_read, listed_read, is_some, nat_lt, unless_refused, ltb-false)

-- ---- how many bytes

flat_long : {A : Type 0} (f : A → List ℕ) (n : ℕ) → ((x : A) → length (f x) ≡ n) → (xs : List A) → length (flat_map f xs) ≡ length xs * n
flat_long f n h [] = omega arith
flat_long f n h (x ∷ xs) = length-append (f x) (flat_map f xs) ∙ grind (arith, h x, flat_long f n h xs)

pub bytes_long : (t : NcType) (vs : Values) → length (external_bytes t vs) ≡ count_of vs * size_of t
bytes_long t vs = grind (arith, nat_tests, flat_long, ext_long)
