-- The calls of all ranks, line by line.
use Rattle.script_laws.proofs.Words.{◌≡◌, ◌∙◌, ℕ, zero, suc, ◌+◌, ◌≤◌, List, [], ◌∷◌, ◌++◌, length, map, replicate, sum, Bool, true, false, IfOk, refl, sym, ap, subst, arith, ◌==◌, slice_set, length-set, length-append, append-nil, le_of_eq, AllByRecursion, list_any, list_all, enumerate_from, filter_map-append, and_from, one_posted, none_posted, each_push, and_first, and_second, or_first_false, or_second_false, Call, most_values, is_lawful_call, values_in_call, posted_ids, are_different, each_passes, Word, Line, next, id_of_post, posted, Called, calls_of, rank_of_text, with_call, call_of, call_line, called_after, at_line, call_step, data_part, nat_tests, common_steps}
use Rattle.script_laws.proofs.ListLaws.{sum_cons, sum_more}
use Rattle.script_laws.proofs.StepLaws.{first_then, then_with, ok_then, by_test, whole_line, at_line_kept}
use Rattle.script_laws.proofs.CallLaws.{FitsCall, call_read}

-- ---- a call more of one rank

rank_set : (F : ℕ → List Call → Type 0) (calls : List (List Call)) (r : ℕ) (new : List Call) → ((k : ℕ) → F k (calls_of k calls)) → F r new → (k : ℕ) → F k (calls_of k (slice_set calls r new))
rank_set F (own ∷ calls) zero new h p zero = p
rank_set F (own ∷ calls) (suc r) new h p (suc k) = rank_set (λ i. F (suc i)) calls r new (λ i. h (suc i)) p k
rank_set F calls r new h p k = h k

sum_grown : (f : List Call → ℕ) (calls : List (List Call)) (r n : ℕ) (c : Call) → ((own : List Call) → f (own ++ c ∷ []) ≤ f own + n)
    → sum (map f (slice_set calls r (calls_of r calls ++ c ∷ []))) ≤ sum (map f calls) + n
sum_grown f [] r n c h = omega arith
sum_grown f (own ∷ calls) zero n c h = omega (arith, sum_cons f (own ++ c ∷ []) calls, sum_cons f own calls, h own)
sum_grown f (own ∷ calls) (suc r) n c h = omega (arith, sum_cons f own (slice_set calls r (calls_of r calls ++ c ∷ [])), sum_cons f own calls, sum_grown f calls r n c h)

-- ---- ids that differ

different_more : (ids : List ℕ) (id : ℕ) → are_different ids ≡ true → list_any (λ other. id == other) ids ≡ false → are_different (ids ++ id ∷ []) ≡ true
different_more [] id h new = refl
different_more (n ∷ ns) id h new = grind (arith, common_steps, different_more ns id, and_first, and_second, or_first_false, or_second_false)

posted_more : (own : List Call) (c : Call) (ids : List ℕ) → posted (c ∷ []) ≡ ids → posted (own ++ c ∷ []) ≡ posted own ++ ids
posted_more own c ids h = filter_map-append id_of_post own (c ∷ []) ∙ ap (λ (more : List ℕ). posted own ++ more) h

-- ---- the calls of all ranks after so many lines

-- the calls of rank r, one of so many
pub record OwnCalls (size r : ℕ) (own : List Call) : Type 0 where
  pub lawful : AllByRecursion (λ c. is_lawful_call size r c ≡ true) own
  pub different : are_different (posted_ids own) ≡ true

abbrev pub own_values : List Call → ℕ
own_values own = sum (map values_in_call own)

pub record FitsCalled (size lines base : ℕ) (d : Called) : Type 0 where
  pub ranks : length d.calls ≡ size
  pub each : (r : ℕ) → OwnCalls size r (calls_of r d.calls)
  pub few_calls : sum (map (λ own. length own) d.calls) ≤ lines
  pub held : base + sum (map own_values d.calls) ≤ d.values
  pub few : d.values ≤ most_values

later_calls : (size lines more base : ℕ) (d : Called) → lines ≤ more → FitsCalled size lines base d → FitsCalled size more base d
later_calls size lines more base d h f = grind (arith, nat_tests)

call_added : (size lines base : ℕ) (d : Called) (r : ℕ) (c : Call) → FitsCalled size lines base d → FitsCall size r d.values (calls_of r d.calls) c → FitsCalled size (suc lines) base (with_call r c d)
call_added size lines base d r c f new =
    let own = calls_of r d.calls in
    grind (arith, common_steps, length-set d.calls r (own ++ c ∷ []), rank_set (OwnCalls size) d.calls r (own ++ c ∷ []) f.each, each_push, posted_more, none_posted, append-nil, one_posted, different_more, sum_grown (λ x. length x) d.calls r 1 c (λ x. le_of_eq (length-append x (c ∷ []))), sum_grown own_values d.calls r (values_in_call c) c (λ x. le_of_eq (sum_more values_in_call x c)), sum_more values_in_call)

-- ---- line by line

module _ (size base : ℕ) where
  line_read : (lines : ℕ) (d : Called) (first : List ℕ) (ws : List Word) → FitsCalled size lines base d → IfOk (called_after d first ws) (FitsCalled size (suc lines) base)
  line_read lines d first ws f =
      first_then (rank_of_text (length d.calls) first) _ _ (λ r _.
      then_with (call_line d r ws) _ _ (FitsCall size r d.values (calls_of r d.calls))
      (first_then (next ws) _ _ (λ w _.
      subst (λ (n : ℕ). IfOk (call_of n r (calls_of r d.calls) d.values w.0 w.1) (FitsCall size r d.values (calls_of r d.calls))) (sym f.ranks) (call_read size r d.values (calls_of r d.calls) w.0 w.1 f.few))) (λ c new. call_added size lines base d r c f new))

  step_read : (lines : ℕ) (d : Called) (w : Word) (ws : List Word) → FitsCalled size lines base d → IfOk (call_step d w ws) (λ s. FitsCalled size (suc lines) base s.1)
  step_read lines d w ws f =
      grind (arith, common_steps, first_then, by_test, whole_line {A = Bool × Called} (true, d) ws, later_calls size lines (suc lines) base d, then_with, line_read lines d)

  pub calls_read : (past lines most : ℕ) (d : Called) (ls : List Line) → lines + length ls ≤ most → FitsCalled size lines base d → IfOk (data_part past d ls) (λ r. FitsCalled size most base r.1.0)
  calls_read past lines most d [] h f = tt
  calls_read past lines most d (l ∷ ls) h f =
      ok_then (at_line l.number (call_step d l.first l.rest)) _ (λ r. FitsCalled size most base r.1.0) (λ s. FitsCalled size (suc lines) base s.1)
      (at_line_kept l.number _ (λ s. FitsCalled size (suc lines) base s.1) (step_read lines d l.first l.rest f))
      (λ s fits. grind (arith, nat_tests, later_calls size (suc lines) most base s.1, calls_read past (suc lines) most s.1 ls))

-- ---- before the first call

none_of : (n k : ℕ) → calls_of k (replicate n []) ≡ []
none_of (suc n) (suc k) = none_of n k
none_of n k = refl

none_sum : (f : List Call → ℕ) (n : ℕ) → f [] ≡ 0 → sum (map f (replicate n [])) ≡ 0
none_sum f zero h = refl
none_sum f (suc n) h = omega (arith, sum_cons f [] (replicate n []), none_sum f n h, h)

pub no_calls_fit : (size values lines : ℕ) → values ≤ most_values → FitsCalled size lines values (record { calls = replicate size []; values = values })
no_calls_fit size values lines h = grind (arith, common_steps, none_of size, none_sum (λ own. length own) size, none_sum own_values size)

-- ---- the same as tests

pub all_lawful : (size n : ℕ) (calls : List (List Call)) → ((r k : ℕ) → n + r ≡ k → OwnCalls size k (calls_of r calls))
    → list_all (λ own. list_all (is_lawful_call size own.0) own.1) (enumerate_from n calls) ≡ true
all_lawful size n [] all = refl
all_lawful size n (own ∷ calls) all =
    and_from _ _ (each_passes (is_lawful_call size n) own (all 0 n (omega arith)).lawful) (all_lawful size (n + 1) calls (λ r k e. all (suc r) k (omega arith)))

pub all_different : (calls : List (List Call)) → ((r : ℕ) → are_different (posted_ids (calls_of r calls)) ≡ true) → list_all (λ own. are_different (posted_ids own)) calls ≡ true
all_different [] h = refl
all_different (own ∷ calls) h = and_from _ _ (h 0) (all_different calls (λ r. h (suc r)))
