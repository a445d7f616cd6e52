-- The sums of device calls. (own)
--     capped n                  a number, or the greatest of 64 bits where it is more
--     least_of ns               the least of some numbers, 0 where there is none
--     reads_in calls            the bytes that each read takes; writes_in calls those that each write puts
--     bytes_in extents          how many bytes these are
--     is_unaligned unit e       whether they begin elsewhere than at a multiple of the unit
--     tally_of unit extents     how many reads or writes; their bytes; the bytes of the smallest and of the largest one; how many are unaligned
--     counted unit calls        how often a file grows, and the tallies of the reads and of the writes
use Rattle.std.specs.Prelude.{ℕ, ◌-◌, ◌%◌, ◌^◌, min, List, [], ◌∷◌, map, flat_map, fold, length, Bool, true, false, nat_lt}
use Rattle.std.specs.List.{count_by, sum_by}
use Rattle.nc_base.specs.declared.plan.Extent.{Extent}
use Rattle.nc_base.specs.declared.step.DiskCall.{DiskCall}
use Rattle.nc_base.specs.declared.step.DiskCall.TheVariants.{Grow, Load, Store}
use Rattle.serial_spec.specs.Layout.{greatest}
use Rattle.plan_sums.specs.declared.calls.Counted.{Counted}
use Rattle.plan_sums.specs.declared.tally.Tally.{Tally}

abbrev pub capped : ℕ → ℕ
capped n = min n (2 ^ 64 - 1)

abbrev pub least_of : List ℕ → ℕ
least_of [] = 0
least_of (n ∷ ns) = fold min n ns

-- ---- the kinds of device calls

abbrev pub is_growth : DiskCall → Bool
is_growth (Grow size) = true
is_growth (Load at len) = false
is_growth (Store at len) = false

abbrev pub read_of : DiskCall → List Extent
read_of (Grow size) = []
read_of (Load at len) = record { at = at; len = len } ∷ []
read_of (Store at len) = []

abbrev pub write_of : DiskCall → List Extent
write_of (Grow size) = []
write_of (Load at len) = []
write_of (Store at len) = record { at = at; len = len } ∷ []

abbrev pub reads_in : List DiskCall → List Extent
reads_in calls = flat_map read_of calls

abbrev pub writes_in : List DiskCall → List Extent
writes_in calls = flat_map write_of calls

-- ---- their sums

abbrev pub bytes_in : List Extent → ℕ
bytes_in extents = sum_by (λ e. e.len) extents

abbrev pub is_unaligned : ℕ → Extent → Bool
is_unaligned unit e = nat_lt 0 (e.at % unit)

abbrev pub tally_of : ℕ → List Extent → Tally
tally_of unit extents = record {
  calls = capped (length extents);
  bytes = capped (bytes_in extents);
  least = least_of (map (λ e. e.len) extents);
  most = greatest (map (λ e. e.len) extents);
  unaligned = capped (count_by (is_unaligned unit) extents);
}

abbrev pub counted : ℕ → List DiskCall → Counted
counted unit calls = record {
  grows = capped (count_by is_growth calls);
  reads = tally_of unit (reads_in calls);
  writes = tally_of unit (writes_in calls);
}
