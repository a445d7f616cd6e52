-- What a lawful script has of the calls of one rank.
use Rattle.run_laws.proofs.Words.{◌≡◌, ℕ, zero, suc, ◌+◌, ◌≤◌, refl, sym, ap, List, [], ◌∷◌, length, map, true, Some, arith, bytes_eq-Decides, slice_get, fold, list_all, enumerate_from, same_Some, passes_at, Call, Script, MeetKind, kinds, kind_number, is_lawful, is_lawful_call, agree, kind_numbers, are_different, posted_ids, most_calls, IsLawful, kinds_of, le_two, lawful_parts, nat_tests, entry_map, entry_numbered, ◌∙◌}

-- ---- tests and lists

pub get_enumerate : {X : Type 0} (xs : List X) (a q n : ℕ) (x : X) → slice_get xs q ≡ Some x → a + q ≡ n → slice_get (enumerate_from a xs) q ≡ Some (n, x)
get_enumerate xs a q n x e l = entry_numbered a xs q x e ∙ ap (λ (k : ℕ). Some (k, x)) l

sum_low : (n : ℕ) (xs : List ℕ) → n ≤ fold (λ a x. a + x) n xs
sum_low n [] = omega arith
sum_low n (x ∷ xs) = let h = sum_low (n + x) xs in omega arith

sum_has : (n : ℕ) (xs : List ℕ) (r x : ℕ) → slice_get xs r ≡ Some x → n + x ≤ fold (λ a y. a + y) n xs
sum_has n [] r x e = cc
sum_has n (y ∷ xs) zero x e = let a : y ≡ x = same_Some y x e in let h = sum_low (n + y) xs in omega arith
sum_has n (y ∷ xs) (suc r) x e = let h = sum_has (n + y) xs r x e in omega arith

-- ---- the ranks agree

same_kinds : (a b : List MeetKind) → map (λ k. kind_number (Some k)) a ≡ map (λ k. kind_number (Some k)) b → a ≡ b
same_kinds [] [] e = refl
same_kinds (j ∷ a) (k ∷ b) e = grind (arith, nat_tests, same_kinds a b)
same_kinds xs ys e = cc

pub one_list : (calls : List (List Call)) (r : ℕ) (own : List Call) → agree calls ≡ true → slice_get calls r ≡ Some own
    → kinds own ≡ elim calls [ [] ↦ [] | first ∷ others ↦ kinds first ]
one_list [] r own h e = cc
one_list (first ∷ others) zero own h e = sym (ap (λ (l : List Call). kinds l) (same_Some first own e))
one_list (first ∷ others) (suc r) own h e = grind (arith, nat_tests, bytes_eq-Decides (kind_numbers own) (kind_numbers first), same_kinds, passes_at)

kinds_few : (calls : List Call) → length (kinds calls) ≤ length calls
kinds_few [] = omega arith
kinds_few (c ∷ calls) = grind (arith, nat_tests, kinds_few calls)

-- ---- a lawful script

pub record Own (script : Script) (r : ℕ) (own : List Call) : Type 0 where
  pub lawful : list_all (is_lawful_call script.ranks r) own ≡ true
  pub different : are_different (posted_ids own) ≡ true
  pub few : length own ≤ most_calls
  pub agreed : kinds own ≡ kinds_of script

pub record Ranks (script : Script) : Type 0 where
  pub one_each : length script.calls ≡ script.ranks
  pub most : script.ranks ≤ 64
  pub kinds_few : length (kinds_of script) ≤ most_calls

own_few : (script : Script) (r : ℕ) (own : List Call) → IsLawful script → slice_get script.calls r ≡ Some own → length own ≤ most_calls
own_few script r own t e = omega (arith, sum_has 0 (map (λ o. length o) script.calls) r (length own) (entry_map (λ o. length o) script.calls r own e), t.few_calls)

pub own_lawful : (script : Script) (r : ℕ) (own : List Call) → is_lawful script ≡ true → slice_get script.calls r ≡ Some own → Own script r own
own_lawful script r own h e =
    let t = lawful_parts script h in
    let each = passes_at (λ o. list_all (is_lawful_call script.ranks o.0) o.1) (enumerate_from 0 script.calls) t.each_call r (r, own) (get_enumerate script.calls 0 r r own e (omega arith)) in
    let ids = passes_at (λ o. are_different (posted_ids o)) script.calls t.ids_once r own e in
    record { lawful = each; different = ids; few = own_few script r own t e; agreed = one_list script.calls r own t.agreed e }

pub ranks_lawful : (script : Script) → is_lawful script ≡ true → Ranks script
ranks_lawful script h = grind (arith, nat_tests, lawful_parts script h, kinds_few, own_few script 0, le_two, script.calls)
