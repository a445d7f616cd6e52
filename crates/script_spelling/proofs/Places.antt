-- Places of names in a list.
use Rattle.script_spelling.proofs.Words.{◌≡◌, ◌⊎◌, ◌∙◌, ℕ, suc, ◌<◌, List, [], ◌∷◌, ◌++◌, map, position, length, drop, Bool, true, false, cond, nat_lt, Option, Some, None, option_map, slice_get, refl, ap, arith, bytes_eq, list_all, list_any, and_parts, and_from, or_parts, cond-true, cond-false, bytes_eq-Decides, position_below, get_left, Dim, all_some, is_among, dim_names, dim_ids, is_record_dim, nat_tests, subst, some_of_map, ltb-true, lt-ltb}

abbrev place : ℕ → ℕ → Option ℕ
place k n = cond (nat_lt k n) (Some k) None

-- the first place, by the first element
pub position_cons : {A : Type 0} (p : A → Bool) (x : A) (xs : List A) → position p (x ∷ xs) ≡ cond (p x) (Some 0) (option_map suc (position p xs))
position_cons p x xs = grind (arith, nat_tests)

-- a place, by the first element: it passes, or the place is one further
pub record Later {A : Type 0} (p : A → Bool) (xs : List A) (k : ℕ) : Type 0 where
  pub before : ℕ
  pub next : k ≡ suc before
  pub found : position p xs ≡ Some before

pub place_cases : {A : Type 0} (p : A → Bool) (x : A) (xs : List A) (k : ℕ) → position p (x ∷ xs) ≡ Some k → ((p x ≡ true) × (k ≡ 0)) ⊎ ((p x ≡ false) × Later p xs k)
place_cases p x xs k h = grind (arith, nat_tests, position_cons, option_map, position)

pub place_here : {A : Type 0} (p : A → Bool) (x : A) (xs : List A) → p x ≡ true → position p (x ∷ xs) ≡ Some 0
place_here p x xs h = position_cons p x xs ∙ cond-true _ _ _ h

pub place_later : {A : Type 0} (p : A → Bool) (x : A) (xs : List A) (k : ℕ) → p x ≡ false → position p xs ≡ Some k → position p (x ∷ xs) ≡ Some (suc k)
place_later p x xs k h e = position_cons p x xs ∙ (cond-false _ _ _ h ∙ ap (option_map suc) e)

place_more : {A : Type 0} (p : A → Bool) (xs ys : List A) (k : ℕ) → position p xs ≡ Some k → position p (xs ++ ys) ≡ Some k
place_more p [] ys k h = absurd (cc)
place_more p (x ∷ xs) ys k h = grind (arith, nat_tests, position_cons p x xs, position_cons p x (xs ++ ys), option_map, place_more p xs ys)

pub bytes_same : (a b : List ℕ) → bytes_eq a b ≡ true → a ≡ b
bytes_same a b h = (bytes_eq-Decides a b).0 h

pub bytes_own : (a : List ℕ) → bytes_eq a a ≡ true
bytes_own a = (bytes_eq-Decides a a).1 refl

-- a name after others stands at their end
pub place_of_new : (n : List ℕ) (names more : List (List ℕ)) → is_among n names ≡ false → position (bytes_eq n) (names ++ n ∷ more) ≡ Some (length names)
place_of_new n [] more h = place_here (bytes_eq n) n more (bytes_own n)
place_of_new n (x ∷ names) more h =
    grind (arith, nat_tests, place_of_new n names more (or_parts (bytes_eq n x) (is_among n names) h).1, or_parts, bytes_eq, place_later)

-- ---- the places of the names of dimensions

abbrev pub name_at : List Dim → ℕ → List ℕ
name_at dims id = elim (slice_get dims id) [ None ↦ [] | Some d ↦ d.name ]

name_of_place : (n : List ℕ) (dims : List Dim) (k : ℕ) → position (bytes_eq n) (dim_names dims) ≡ Some k → name_at dims k ≡ n
name_of_place n [] k h = absurd (cc)
name_of_place n (d ∷ dims) k h = grind (arith, nat_tests, place_cases (bytes_eq n) d.name (dim_names dims) k h, bytes_same n d.name, name_of_place n dims)

-- what holds of nothing, and on from what f gives, holds of all that f gives
all_given : {A B : Type 0} (f : A → Option B) (P : List A → List B → Type 0) → P [] [] → ((x : A) (y : B) (xs : List A) (ys : List B) → f x ≡ Some y → P xs ys → P (x ∷ xs) (y ∷ ys))
    → (xs : List A) (ys : List B) → all_some (map f xs) ≡ Some ys → P xs ys
all_given f P none more [] ys h = let same : [] ≡ ys = cc in subst (P []) same none
all_given {A} {B} f P none more (x ∷ xs) ys h = grind (arith, nat_tests, all_given f P none more xs, some_of_map)

all_more_given : {A B : Type 0} (f : A → Option B) (x : A) (y : B) (xs : List A) (ys : List B) → f x ≡ Some y → all_some (map f xs) ≡ Some ys → all_some (map f (x ∷ xs)) ≡ Some (y ∷ ys)
all_more_given {A} {B} f x y xs ys e h = ap (λ (o : Option B). all_some (o ∷ map f xs)) e ∙ ap (option_map (λ zs. y ∷ zs)) h

abbrev pub place_in : List Dim → List ℕ → Option ℕ
place_in dims n = position (bytes_eq n) (dim_names dims)

-- the dimensions' names by their places
pub names_shown : (dims : List Dim) (ns : List (List ℕ)) (ids : List ℕ) → dim_ids dims ns ≡ Some ids → map (name_at dims) ids ≡ ns
names_shown dims ns ids h = all_given (place_in dims) (λ ms is. map (name_at dims) is ≡ ms) refl (λ n i ms is e k. rw (name_of_place n dims i e, k)) ns ids h

pub joined_names : (dims more : List Dim) → dim_names (dims ++ more) ≡ dim_names dims ++ dim_names more
joined_names [] more = refl
joined_names (d ∷ dims) more = ap (λ (xs : List (List ℕ)). d.name ∷ xs) (joined_names dims more)

-- more dimensions leave these where they are
pub more_ids : (dims more : List Dim) (ns : List (List ℕ)) (ids : List ℕ) → dim_ids dims ns ≡ Some ids → dim_ids (dims ++ more) ns ≡ Some ids
more_ids dims more ns ids h =
    all_given (place_in dims) (λ ms is. dim_ids (dims ++ more) ms ≡ Some is) refl
    (λ n i ms is e k. all_more_given (place_in (dims ++ more)) n i ms is (rw (joined_names dims more) (place_more (bytes_eq n) (dim_names dims) (dim_names more) i e)) k) ns ids h

pub length_names : (dims : List Dim) → length (dim_names dims) ≡ length dims
length_names [] = refl
length_names (d ∷ dims) = ap suc (length_names dims)

abbrev pub are_within : List Dim → List ℕ → Bool
are_within dims ids = list_all (λ id. nat_lt id (length dims)) ids

-- the dimensions of these places, by their names
pub ids_found : (dims : List Dim) (ids : List ℕ) → ((k : ℕ) → k < length dims → place_in dims (name_at dims k) ≡ Some k) → are_within dims ids ≡ true → dim_ids dims (map (name_at dims) ids) ≡ Some ids
ids_found dims [] each low = refl
ids_found dims (i ∷ ids) each low =
    let both = and_parts (nat_lt i (length dims)) (are_within dims ids) low in
    all_more_given (place_in dims) (name_at dims i) i (map (name_at dims) ids) ids (each i (ltb-true i (length dims) both.0)) (ids_found dims ids each both.1)

within_given : (dims : List Dim) (ns : List (List ℕ)) (ids : List ℕ) → dim_ids dims ns ≡ Some ids → are_within dims ids ≡ true
within_given dims ns ids h = all_given (place_in dims) (λ ms is. are_within dims is ≡ true) refl (λ n i ms is e k. and_from _ _ (grind (arith, nat_tests, position_below (bytes_eq n) (dim_names dims) i e, lt-ltb, length_names)) k) ns ids h

same_records : (dims more : List Dim) (ids : List ℕ) → are_within dims ids ≡ true → list_any (is_record_dim (dims ++ more)) ids ≡ list_any (is_record_dim dims) ids
same_records dims more [] h = refl
same_records dims more (i ∷ ids) h =
    grind (arith, nat_tests, same_records dims more ids (and_parts (nat_lt i (length dims)) (are_within dims ids) h).1, and_parts, nat_lt, get_left, ltb-true)

pub more_records : (dims more : List Dim) (ns : List (List ℕ)) (ids : List ℕ) → dim_ids dims ns ≡ Some ids → list_any (is_record_dim dims) (drop 1 ids) ≡ false → list_any (is_record_dim (dims ++ more)) (drop 1 ids) ≡ false
more_records dims more ns ids h none = same_records dims more (drop 1 ids) (grind (arith, nat_tests, within_given dims ns ids h)) ∙ none
