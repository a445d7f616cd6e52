-- The one dimension that is unlimited, by its name.
use Rattle.script_definitions.proofs.Words.{◌≡◌, ◌∙◌, ℕ, List, [], ◌∷◌, ◌++◌, ◌&&◌, Bool, true, false, bytes_eq, cond, Option, None, Some, refl, sym, ap, ap₂, ◌==◌, is_some, option_map, list_any, filter, map-append, filter-append, Dim, is_unlimited, is_added_record, dim_names, IsRecordName, or_false, any_map, arith, nat_tests}

any_of_kept : {A : Type 0} (test keep : A → Bool) (xs : List A) → list_any test (filter keep xs) ≡ list_any (λ x. test x && keep x) xs
any_of_kept test keep [] = refl
any_of_kept test keep (x ∷ xs) = grind (arith, nat_tests, any_of_kept test keep xs, list_any, filter)

-- a test of names, over the unlimited dimensions
any_record : (test : List ℕ → Bool) (one : Option (List ℕ)) (dims : List Dim) → IsRecordName one dims
    → list_any (λ d. test d.name && is_unlimited d) dims ≡ list_any test (elim one [ None ↦ [] | Some name ↦ name ∷ [] ])
any_record test one dims h = grind (arith, nat_tests, any_of_kept, any_map, list_any, filter)

pub is_record_name : (one : Option (List ℕ)) (dims : List Dim) (n : List ℕ) → IsRecordName one dims
    → is_added_record dims n ≡ elim one [ None ↦ false | Some own ↦ bytes_eq n own ]
is_record_name one dims n h = any_record (bytes_eq n) one dims h ∙ own one
  where
    own : (r : Option (List ℕ)) → list_any (bytes_eq n) (elim r [ None ↦ [] | Some name ↦ name ∷ [] ]) ≡ elim r [ None ↦ false | Some own ↦ bytes_eq n own ]
    own None = refl
    own (Some name) = or_false (bytes_eq n name)

pub some_record : (one : Option (List ℕ)) (dims : List Dim) → IsRecordName one dims → list_any is_unlimited dims ≡ is_some one
some_record one dims h = any_record (λ name. true) one dims h ∙ own one
  where
    own : (r : Option (List ℕ)) → list_any (λ name. true) (elim r [ None ↦ [] | Some name ↦ name ∷ [] ]) ≡ is_some r
    own None = refl
    own (Some name) = refl

pub some_of_map : {A B : Type 0} (f : A → B) (o : Option A) → is_some (option_map f o) ≡ is_some o
some_of_map f o = grind (arith, nat_tests)

none_yet : (one : Option (List ℕ)) (dims : List Dim) → IsRecordName one dims → is_some one ≡ false → dim_names (filter is_unlimited dims) ≡ []
none_yet one dims h none = grind (arith, nat_tests)

pub record_pushed : (one : Option (List ℕ)) (dims : List Dim) (d : Dim) → IsRecordName one dims → list_any is_unlimited dims ≡ false → d.len ≡ 0
    → IsRecordName (Some d.name) (dims ++ d ∷ [])
record_pushed one dims d h none zero =
    ap (λ ds. dim_names ds) (filter-append is_unlimited dims (d ∷ []))
    ∙ map-append (λ (e : Dim). e.name) (filter is_unlimited dims) (filter is_unlimited (d ∷ []))
    ∙ ap₂ (λ (old new : List (List ℕ)). old ++ new) (none_yet one dims h (sym (some_record one dims h) ∙ none))
    (ap (λ (n : ℕ). dim_names (cond (n == 0) (d ∷ []) [])) zero)
