-- Turns in rounds. (own; after Thakur, Gropp and Lusk, "Data Sieving and Collective I/O in ROMIO", 1999, section 5)
--     HasRound next all k r    the next turn of the one at k is of round r
use Rattle.std.specs.Prelude.{◌≡◌, ℕ, List, Option, Some, slice_get}

abbrev pub HasRound : {T : Type 0} → (T → Option ℕ) → List T → ℕ → ℕ → Type 0
HasRound {T} next all k r = (one : T) × (slice_get all k ≡ Some one) × (next one ≡ Some r)
