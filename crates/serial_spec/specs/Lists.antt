-- Lists. (own)
--     In xs x                 the item stands in the list
--     HaveSame xs ys          the same items stand in both, in whatever order
--     sorted_by before xs     the items in order, where `before x y` says that x may stand before y
--     first_true tests other  what stands beside the first test that is true, else the other
use Rattle.std.specs.Prelude.{◌≡◌, List, [], ◌∷◌, ◌⊎◌, Bool, true, false, if◌then◌else◌}

abbrev pub In : {X : Type 0} → List X → X → Type 0
In [] x = ⊥
In (y ∷ ys) x = (y ≡ x) ⊎ In ys x

abbrev pub HaveSame : {X : Type 0} → List X → List X → Type 0
HaveSame {X} xs ys = ((o : X) → In xs o → In ys o) × ((o : X) → In ys o → In xs o)

abbrev pub is_empty : {A : Type 0} → List A → Bool
is_empty [] = true
is_empty (x ∷ xs) = false

abbrev pub inserted_by : {X : Type 0} → (X → X → Bool) → X → List X → List X
inserted_by before x [] = x ∷ []
inserted_by before x (y ∷ ys) = if before x y then x ∷ y ∷ ys else y ∷ inserted_by before x ys

abbrev pub sorted_by : {X : Type 0} → (X → X → Bool) → List X → List X
sorted_by before [] = []
sorted_by before (x ∷ xs) = inserted_by before x (sorted_by before xs)

abbrev pub first_true : {A : Type 0} → List (Bool × A) → A → A
first_true [] other = other
first_true (test ∷ tests) other = if test.0 then test.1 else first_true tests other
