-- Ranks that agree don't differ.
use Rattle.script_spelling.proofs.Words.{◌≡◌, ◌∙◌, ℕ, zero, suc, ◌+◌, List, [], ◌∷◌, find, map, length, Bool, true, false, not, Option, Some, None, is_some, option_map, refl, ap, bytes_eq, list_all, range_with_len, and_parts, and_from, cond-false, bytes_eq-Decides, ScriptKind, Call, MeetKind, kinds, kind_number, agree, kind_numbers, kind_at, differs_at, is_difference, mismatch, arith, nat_tests}
use Rattle.script_spelling.proofs.Places.{position_cons}
use Rattle.nc_base.specs.declared.errors.ScriptKind.TheVariants as kind

abbrev pub numbers : List MeetKind → List ℕ
numbers own = map (λ k. kind_number (Some k)) own

pub same_at : (own first : List MeetKind) (k : ℕ) → numbers own ≡ numbers first → kind_at k own ≡ kind_at k first
same_at [] [] k h = refl
same_at [] (y ∷ ys) k h = absurd (cc)
same_at (x ∷ xs) [] k h = absurd (cc)
same_at (x ∷ xs) (y ∷ ys) zero h = cc
same_at (x ∷ xs) (y ∷ ys) (suc k) h = let rest : numbers xs ≡ numbers ys = cc in same_at xs ys k rest

abbrev pub have_kinds : List (List Call) → List ℕ → Bool
have_kinds calls ns = list_all (λ own. bytes_eq (kind_numbers own) ns) calls

none_differs : (calls : List (List Call)) (first : List MeetKind) (k : ℕ) → have_kinds calls (numbers first) ≡ true → differs_at (map (λ own. kinds own) calls) first k ≡ None
none_differs [] first k h = refl
none_differs (own ∷ calls) first k h =
    grind (arith, nat_tests, none_differs calls first k, and_parts, same_at (kinds own) first k, bytes_eq-Decides (kind_numbers own) (numbers first), position_cons, option_map, not)

nothing_found : (p : ℕ → Bool) (from n : ℕ) → ((k : ℕ) → p k ≡ false) → find p (range_with_len from n) ≡ None
nothing_found p from zero h = refl
nothing_found p from (suc n) h = cond-false _ _ _ (h from) ∙ nothing_found p (from + 1) n h

abbrev pub difference_by : List (List MeetKind) → List MeetKind → Option ℕ → Option ScriptKind
difference_by ranks first o = option_map (λ d. kind.Mismatch d.0 0 d.1) (elim o as (λ x. Option (ℕ × ℕ)) [ None ↦ None | Some k ↦ option_map (λ r. (k, r)) (differs_at ranks first k) ])

pub agreement : (calls : List (List Call)) → agree calls ≡ true → mismatch (map (λ own. kinds own) calls) ≡ None
agreement [] h = refl
agreement (own ∷ others) h =
    let first = kinds own in
    let all = own ∷ others in
    let ranks = map (λ cs. kinds cs) all in
    let same : have_kinds all (numbers first) ≡ true = and_from _ _ ((bytes_eq-Decides (numbers first) (numbers first)).1 refl) h in
    ap (difference_by ranks first) (nothing_found (is_difference ranks first) 0 (length first + 1) (λ k. ap is_some (none_differs all first k same)))
