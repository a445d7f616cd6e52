-- Where a run was cut off. (own)
--     bytes_at s ranks mark     the bytes that the puts of a step hold, of ranks at their next offers
--     StopsAt ..                in a step whose mark may follow, or, for want of memory, between two
--     IsLeftAt ..               the same of the bytes and the count that are left
--     HasStopped ..             the steps that were added before that
--     MayFollow script r order m      the mark is a step of rank r, and its next
--     IsNext script order m     with the mark, the order begins one of the script's histories
use Rattle.std.specs.Prelude.{◌≡◌, ℕ, List, [], ◌∷◌, ◌++◌, flat_map, filter, true, Option, Some, None}
use Rattle.std.specs.List.{enumerate_from}
use Rattle.nc_base.specs.declared.script.Script.{Script}
use Rattle.nc_base.specs.declared.step.Mark.{Mark}
use Rattle.nc_base.specs.declared.step.Mark.TheVariants.{Meet, Solo}
use Rattle.nc_base.specs.declared.step.StepErr.{StepErr}
use Rattle.nc_base.specs.declared.step.StepErr.TheVariants.{Memory}
use Rattle.serial_spec.specs.FileStep.{Setting, puts_of}
use Rattle.serial_spec.specs.History.{IsLegal, concerns, marks}
use Rattle.serial_spec.specs.SerialEnd.{offers_of}
use Rattle.serial_spec.specs.SharedByte.{covered}
use Rattle.serial_spec.specs.Torn.{IsLeft}
use Rattle.run_laws.specs.Ahead.{is_solo_of}
use Rattle.run_laws.specs.Arrivals.{Arrived, Stand, offer_at, step_to}
use Rattle.turn_run.specs.Known.{Point}
use Rattle.turn_run.specs.Said.{HasReached}

abbrev pub bytes_at : Setting → List Arrived → Mark → List ℕ
bytes_at s ranks (Meet k) = covered s.header (flat_map puts_of (enumerate_from 0 (offers_of ranks)))
bytes_at s ranks (Solo r c) = elim (offer_at ranks r) [ None ↦ [] | Some o ↦ covered s.header (puts_of (r, o)) ]

pub data StopsAt (Follows : Mark → Type 0) (s : Setting) (fault : StepErr) (stand : Stand) (left : List ℕ) (records : ℕ) : Type 0 where
  in_step : (m : Mark) → Follows m → IsLeft s.header (bytes_at s stand.1 m) stand.0 (step_to s stand m).0 left records → StopsAt Follows s fault stand left records
  between : fault ≡ Memory → left ≡ stand.0.file → records ≡ stand.0.records → StopsAt Follows s fault stand left records

abbrev pub IsLeftAt : (Mark → Type 0) → Setting → StepErr → Option (List ℕ) → ℕ → Stand → Type 0
IsLeftAt Follows s fault left records stand = (bytes : List ℕ) × (left ≡ Some bytes) × StopsAt Follows s fault stand bytes records

-- from a point with ranks at their next offers to another
abbrev pub HasStopped : (Mark → Type 0) → Setting → StepErr → Point → List Arrived → Point → Type 0
HasStopped Follows s fault from ranks to = HasReached (IsLeftAt Follows s fault to.held to.records) s from ranks to.order

abbrev pub MayFollow : Script → ℕ → List Mark → Mark → Type 0
MayFollow script r order m = (is_solo_of r m ≡ true) × ((rest : List Mark) × (filter (concerns r) (order ++ m ∷ []) ++ rest ≡ marks script.calls r))

abbrev pub IsNext : Script → List Mark → Mark → Type 0
IsNext script order m = (later : List Mark) × IsLegal script (order ++ m ∷ later)
