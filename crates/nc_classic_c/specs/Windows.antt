-- The windows of a collective step, as C reads them. (own; domains and windows are those of serial_spec)
--     bytes_asked es              the bytes of extents, in order, each once
--     end_of bytes                the one behind the last; 0 where there are none
--     window_shown a w            a window of aggregator a's domain
--     step_windows d bytes        the windows of all domains, domain after domain
--     told w                      a window by its hull: first byte, length, whether it has no hole
--     step_shown bytes n          from where to where the bytes reach, and a number of windows
--     AreWindows d es from old new step     the array has the windows from number `from` on, and the step is told
--     IsWindowRefusal d es r      why there are none
use Rattle.std.specs.Prelude.{◌≡◌, ℕ, ◌+◌, ◌^◌, List, [], ◌∷◌, map, flat_map, drop, length, Bool, false, nat_le, nat_lt, ◌&&◌, ◌==◌}
use Rattle.std.specs.List.{range_with_len, enumerate_from, list_all}
use Rattle.nc_base.specs.declared.answer.Code.TheVariants as code
use Rattle.nc_base.specs.declared.plan.Owned.{Owned}
use Rattle.file_domains.specs.declared.walk.Window.{Window}
use Rattle.serial_spec.specs.DeviceCalls.{in_order, first_of, last_of, hull_len, domains, windows}
use Rattle.serial_spec.specs.Limits.{file_limit}
use Rattle.nc_classic_c.specs.declared.answers.Refusal.{Refusal}
use Rattle.nc_classic_c.specs.declared.answers.Refusal.TheVariants as refusal
use Rattle.nc_classic_c.specs.declared.extents.NcvExtent.{NcvExtent}
use Rattle.nc_classic_c.specs.declared.windows.Division.{Division}
use Rattle.nc_classic_c.specs.declared.windows.NcvStep.{NcvStep}
use Rattle.nc_classic_c.specs.declared.windows.NcvWindow.{NcvWindow}
use Rattle.nc_classic_c.specs.Extents.{filled}

-- ---- what is asked for

abbrev pub is_division : Division → Bool
is_division d =
    nat_le 1 d.aggregators && nat_le d.aggregators 64 && nat_le 1 d.unit && nat_le d.unit (2 ^ 25) && nat_le 1 d.buffer && nat_le d.buffer (2 ^ 25)

abbrev pub division_of : ℕ → ℕ → ℕ → Division
division_of aggregators unit buffer = record { aggregators = aggregators; unit = unit; buffer = buffer }

abbrev pub end_is_low : NcvExtent → Bool
end_is_low e = nat_lt (e.at + e.len) file_limit

abbrev pub ends_are_low : List NcvExtent → Bool
ends_are_low es = list_all end_is_low es

abbrev pub bytes_of : NcvExtent → List ℕ
bytes_of e = range_with_len e.at e.len

abbrev pub bytes_asked : List NcvExtent → List ℕ
bytes_asked es = in_order (flat_map bytes_of es)

abbrev pub entry : NcvExtent → Owned
entry e = record { extent = record { at = e.at; len = e.len }; rank = 0; request = 0; slot = 0; from = 0 }

abbrev pub end_of : List ℕ → ℕ
end_of [] = 0
end_of (x ∷ xs) = last_of (x ∷ xs) + 1

-- ---- windows

abbrev pub shown : ℕ → Window → NcvWindow
shown a w = record { at = w.hull.at; len = w.hull.len; aggregator = a; full = w.full }

abbrev pub window_shown : ℕ → List ℕ → NcvWindow
window_shown a w = record { at = first_of w; len = hull_len w; aggregator = a; full = length w == hull_len w }

-- those of a domain, which has a number
abbrev pub numbered_windows : ℕ → ℕ × List ℕ → List NcvWindow
numbered_windows buffer d = map (window_shown d.0) (windows buffer d.1)

abbrev pub step_windows : Division → List ℕ → List NcvWindow
step_windows d bytes = flat_map (numbered_windows d.buffer) (enumerate_from 0 (domains d.aggregators d.unit bytes))

abbrev pub told : NcvWindow → ℕ × ℕ × Bool
told w = (w.at, w.len, w.full)

abbrev pub step_shown : List ℕ → ℕ → NcvStep
step_shown bytes n = record { lo = first_of bytes; hi = end_of bytes; windows = n }

abbrev pub AreWindows : Division → List NcvExtent → ℕ → List NcvWindow → List NcvWindow → NcvStep → Type 0
AreWindows d es from old new step =
    let all = step_windows d (bytes_asked es) in
    (new ≡ filled old (drop from all)) × (step ≡ step_shown (bytes_asked es) (length all))

-- the division is outside its limits, or an extent ends too far
abbrev pub IsWindowRefusal : Division → List NcvExtent → Refusal → Type 0
IsWindowRefusal d es refusal.Memory = Unit {0}
IsWindowRefusal d es (refusal.Asked code.EInvalRequest) = is_division d ≡ false
IsWindowRefusal d es (refusal.Asked code.ETooLarge) = ends_are_low es ≡ false
IsWindowRefusal d es _ = ⊥
