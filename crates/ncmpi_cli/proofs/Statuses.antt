-- What the status of an early end, and of a run whose text is given or wants memory, tells.
use Rattle.ncmpi_cli.proofs.Words.{◌≡◌, ℕ, List, None, inl, inr, ◌⊎◌, refl, ap, subst, arith, nat_tests, IfSome, IsBeforeRanks, IsBeforeStart, IsSilent, IsStatus, line_of, line_of_status, status_of, ScriptErr, Stop}
use Rattle.dataset_start.specs.declared.stop.Stop.TheVariants as stops

-- ---- an early end

-- its status is that of its stop, or memory was wanting for its line
abbrev pub IsTold : Stop → ℕ → Type 0
IsTold stop status = (status ≡ status_of stop) ⊎ (status ≡ 8)

-- by its cause, where neither words nor source are at fault
pub by_cause : {Q : Type 0} (stop : Stop) (status : ℕ) → IsTold stop status → (stop ≡ stops.Usage → ⊥) → (stop ≡ stops.Source → ⊥)
    → ((e : ScriptErr) → stop ≡ stops.Script e → status ≡ 3 → Q) → (status_of stop ≡ 4 → status ≡ 4 → Q) → (stop ≡ stops.Disk → status ≡ 7 → Q) → (status ≡ 8 → Q) → Q
by_cause stops.Usage status (inl own) u s script dataset disk memory = absurd (u refl)
by_cause stops.Source status (inl own) u s script dataset disk memory = absurd (s refl)
by_cause (stops.Script e) status (inl own) u s script dataset disk memory = script e refl own
by_cause stops.Disk status (inl own) u s script dataset disk memory = disk refl own
by_cause stops.Memory status (inl own) u s script dataset disk memory = memory own
by_cause stop status (inl own) u s script dataset disk memory = dataset refl own
by_cause stop status (inr m) u s script dataset disk memory = memory m

pub stop_status : (stop : Stop) (status : ℕ) → IsTold stop status → IsStatus status
stop_status stop status told = grind (arith, nat_tests)

pub two_usage : (stop : Stop) (status : ℕ) → IsTold stop status → status ≡ 2 → stop ≡ stops.Usage
two_usage stop status told s = grind (arith, nat_tests)

pub five_source : (stop : Stop) (status : ℕ) → IsTold stop status → status ≡ 5 → stop ≡ stops.Source
five_source stop status told s = grind (arith, nat_tests)

pub seven_disk : (stop : Stop) (status : ℕ) → IsTold stop status → status ≡ 7 → stop ≡ stops.Disk
seven_disk stop status told s = grind (arith, nat_tests)

-- what is so of the stop is so of the status
pub four_untouched : {Q : Type 0} (stop : Stop) (status : ℕ) → IsTold stop status → (status_of stop ≡ 4 → Q) → status ≡ 4 → Q
four_untouched stop status told still s = grind (arith, nat_tests)

pub before_start : {Q : Type 0} (stop : Stop) (status : ℕ) → IsTold stop status → (IsBeforeStart (status_of stop) → Q) → IsBeforeStart status → Q
before_start stop status (inl own) still s = still (subst IsBeforeStart own s)
before_start stop status (inr m) still s = absurd (grind (arith, nat_tests))

pub silent_stop : {Q : Type 0} (stop : Stop) (status : ℕ) → IsTold stop status → (line_of stop ≡ None → (status ≡ status_of stop) × Q)
    → (status ≡ 8 → Q) → IsSilent status → Q
silent_stop stop status told unlined memory (inl s) = (unlined (ap (λ (x : Stop). line_of x) (five_source stop status told s))).1
silent_stop stop status told unlined memory (inr s) = memory s

-- the line of a stop is that of its status
pub told_line : (Gives : List ℕ → Type 0) (stop : Stop) (status : ℕ) → IsTold stop status → (status ≡ status_of stop → IfSome (line_of stop) Gives)
    → IfSome (line_of_status status) Gives
told_line Gives stop status told gives = grind (arith, nat_tests)

-- ---- a run whose text is given, or wants memory

abbrev pub IsEnded : ℕ → Type 0
IsEnded status = (status ≡ 0) ⊎ ((status ≡ 6) ⊎ (status ≡ 8))

pub ended_status : (status : ℕ) → IsEnded status → IsStatus status
ended_status status e = grind (arith, nat_tests)

pub ended_line : (Gives : List ℕ → Type 0) (status : ℕ) → IsEnded status → IfSome (line_of_status status) Gives
ended_line Gives status e = grind (arith, nat_tests)

-- it has none of the statuses before the ranks begin
pub ended_late : {Q : Type 0} (status : ℕ) → IsEnded status → IsBeforeRanks status → Q
ended_late status e s = absurd (grind (arith, nat_tests))

pub silent_end : {Q : Type 0} (status : ℕ) → IsEnded status → (status ≡ 8 → Q) → IsSilent status → Q
silent_end status statuses memory s = grind (arith, nat_tests)
