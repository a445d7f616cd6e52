-- What the watchers of a run read, by how it ended.
use Rattle.ncmpi_cli.proofs.Words.{◌≡◌, ℕ, List, [], length, Option, subst, arith, nat_tests, IfSome, IsSome, Mark, HasReadings, watchers_of, GivesText, readings_of, AreReadings, Asked, Stop, RunReadings, All}
use Rattle.ncmpi_cli.proofs.Statuses.{IsEnded, IsTold}

-- ---- where no text is given

-- a stop has none of the statuses with which a text is given
pub told_by_no_text : (stop : Stop) (status : ℕ) → IsTold stop status → GivesText status → ⊥
told_by_no_text stop status told s = grind (arith, nat_tests)

pub untold : (watchers status steps : ℕ) (readings : List (List ℕ)) → (GivesText status → ⊥) → readings ≡ [] → HasReadings watchers status steps readings
untold watchers status steps readings never e = record { each = λ gives. absurd (never gives); none = λ _. e }

-- ---- where the ranks' run ended without a fault

pub read : (watchers status : ℕ) (order end_order : List Mark) (readings : List (List ℕ)) (seen : Option RunReadings)
    → IsEnded status → order ≡ end_order → (GivesText status → IsSome seen) → (GivesText status → readings ≡ readings_of seen)
    → (status ≡ 8 → readings ≡ []) → IfSome seen (λ s. (length s.readings ≡ watchers) × All (AreReadings (length end_order)) s.readings)
    → HasReadings watchers status (length order) readings
read watchers status order end_order readings seen statuses same some same_readings none own = grind (arith, nat_tests)

-- ---- by what the words ask for

-- what is so of what is asked for is so of what the words ask for
pub watched : (form asked : Option Asked) (status steps : ℕ) (readings : List (List ℕ)) → asked ≡ form
    → HasReadings (watchers_of asked) status steps readings → HasReadings (watchers_of form) status steps readings
watched form asked status steps readings e h = subst (λ (f : Option Asked). HasReadings (watchers_of f) status steps readings) e h

-- where nobody watches
pub unwatched : (status steps : ℕ) (readings : List (List ℕ)) → readings ≡ [] → HasReadings 0 status steps readings
unwatched status steps readings e = grind (arith, nat_tests)
