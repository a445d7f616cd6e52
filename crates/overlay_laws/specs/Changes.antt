-- What stands after a change of a file that was refused on the way, and the device calls of windows. (own)
--     IsBetween old new left      as long as the old file, and each byte is old or new
--     IsBegun plan old now        the calls are the old ones and a beginning of the plan, or are not told
--     load_calls, store_calls     the calls of a window that is told by its hull: first byte, length, whether it has no hole
use Rattle.std.specs.Prelude.{◌≡◌, ℕ, List, [], ◌∷◌, ◌++◌, length, take, ◌⊎◌, Bool, if◌then◌else◌, Option}
use Rattle.std.specs.Option.{option_map}
use Rattle.nc_base.specs.declared.step.DiskCall.{DiskCall}
use Rattle.nc_base.specs.declared.step.DiskCall.TheVariants.{Load, Store}
use Rattle.serial_spec.specs.File.{at}

pub record IsBetween (old new left : List ℕ) : Type 0 where
  pub len : length left ≡ length old
  pub each : (x : ℕ) → (at left x ≡ at old x) ⊎ (at left x ≡ at new x)

abbrev pub IsBegun : List DiskCall → Option (List DiskCall) → Option (List DiskCall) → Type 0
IsBegun plan old now = (n : ℕ) × (now ≡ option_map (λ calls. calls ++ take n plan) old)

-- a window that is read
abbrev pub load_calls : ℕ × ℕ × Bool → List DiskCall
load_calls w = Load w.0 w.1 ∷ []

-- a window that is written, after it was read where it has a hole
abbrev pub store_calls : ℕ × ℕ × Bool → List DiskCall
store_calls w = (if w.2 then [] else load_calls w) ++ Store w.0 w.1 ∷ []
