-- What the workers of a relocation make of a file, and their device calls. (own)
--     slab_of s               a shift of the code as a slab
--     first_slabs old new records      the slabs of the record variables in record 0, or those of the fixed variables
--     further a b s           the same slab in a record, so many bytes further than in record 0, in the old file and in the new one
--     slabs_at step ss r      the slabs of record r, where records are a step apart in each file
--     listed slabs            all slabs that the lists of the code stand for, the lowest first
--     window z s j            window j from the top of a slab, as a slab
--     slab_moved file s       the file with a slab's bytes at the new place
--     all_moved file ss       the same of all slabs whose place changes, one after another
--     slab_calls z s          the calls that move a slab, all_calls z ss those of all slabs whose place changes
--     cleared file g          the file with zeros in a gap, given by its place and length
--     all_cleared file gaps   the same of many gaps
--     gaps_before at ss       the gaps before slabs, from `at` on, and behind at ss the place behind the last of them
--     IsMovable long z room s      a slab moves up or stays in a file so long, its end is a number of the code, and a buffer so long holds a window of it
--     AreMovable, AreListed        the same of all slabs, and of those of the lists, whose steps to each record are numbers of the code
--     AreSpaced at end ss          slabs lie one behind another from `at` to the end at the latest
--     AreClearable long z room at ss      the same to an end in a file so long, and a buffer so long holds a window of each gap
use Rattle.std.specs.Prelude.{ℕ, ◌+◌, ◌-◌, ◌*◌, ◌^◌, ◌<◌, ◌≤◌, min, List, [], ◌∷◌, ◌++◌, filter, flat_map, fold, map, replicate, zip, Bool, true, false, not}
use Rattle.std.specs.List.{range_with_len}
use Rattle.nc_base.specs.declared.header.Header.{Header}
use Rattle.nc_base.specs.declared.step.DiskCall.{DiskCall}
use Rattle.nc_base.specs.declared.step.DiskCall.TheVariants.{Load, Store}
use Rattle.serial_spec.specs.DeviceCalls.{Slab, move_window, stores, window_count}
use Rattle.serial_spec.specs.File.{read, written}
use Rattle.serial_spec.specs.Layout.{is_record}
use Rattle.overlay_laws.specs.Entries.{In}
use Rattle.redef_laws.specs.RisingSlabs.{changes, first_slab}
use Rattle.redef_mover.specs.declared.slabs.Offset.{Offset}
use Rattle.redef_mover.specs.declared.slabs.Shift.{Shift}
use Rattle.redef_mover.specs.declared.slabs.Slabs.{Slabs}

abbrev pub slab_of : Shift → Slab
slab_of s = record { from = s.from; to = s.to; len = s.len }

abbrev pub is_kind : Bool → Bool → Bool
is_kind true kind = kind
is_kind false kind = not kind

abbrev pub first_slabs : Header → Header → Bool → List Slab
first_slabs old new records = map (first_slab old) (filter (λ p. is_kind records (is_record old p.0)) (zip old.vars new.vars))

abbrev pub further : ℕ → ℕ → Slab → Slab
further a b s = record { from = s.from + a; to = s.to + b; len = s.len }

abbrev pub slabs_at : Offset → List Shift → ℕ → List Slab
slabs_at step ss r = map (further (r * step.old) (r * step.new)) (map slab_of ss)

abbrev pub listed : Slabs → List Slab
listed slabs = map slab_of slabs.fixed.items ++ flat_map (slabs_at slabs.step slabs.records.items) (range_with_len 0 slabs.count)

-- ---- moves

abbrev pub window : ℕ → Slab → ℕ → Slab
window z s j =
    let top = s.len - j * z in
    let n = min z top in
    record { from = s.from + (top - n); to = s.to + (top - n); len = n }

abbrev pub slab_moved : List ℕ → Slab → List ℕ
slab_moved file s = written file s.to (read file s.from s.len)

abbrev pub all_moved : List ℕ → List Slab → List ℕ
all_moved file ss = fold slab_moved file (filter changes ss)

abbrev pub window_calls : Slab → List DiskCall
window_calls s = Load s.from s.len ∷ Store s.to s.len ∷ []

abbrev pub slab_calls : ℕ → Slab → List DiskCall
slab_calls z s = flat_map (move_window z s) (range_with_len 0 (window_count z s.len))

abbrev pub all_calls : ℕ → List Slab → List DiskCall
all_calls z ss = flat_map (slab_calls z) (filter changes ss)

pub record IsMovable (long z room : ℕ) (s : Slab) : Type 0 where
  pub up : s.from ≤ s.to
  pub inside : s.to + s.len ≤ long
  pub small : s.to + s.len < 2 ^ 64
  pub fits : min z s.len ≤ room

abbrev pub AreMovable : ℕ → ℕ → ℕ → List Slab → Type 0
AreMovable long z room ss = (s : Slab) → In ss s → IsMovable long z room s

abbrev pub AreSteps : Offset → ℕ → Type 0
AreSteps step count = (r : ℕ) → r < count → (r * step.old < 2 ^ 64) × (r * step.new < 2 ^ 64)

pub record AreListed (long z room : ℕ) (slabs : Slabs) : Type 0 where
  pub movable : AreMovable long z room (listed slabs)
  pub steps : AreSteps slabs.step slabs.count

-- ---- gaps

abbrev pub cleared : List ℕ → ℕ × ℕ → List ℕ
cleared file g = written file g.0 (replicate g.1 0)

abbrev pub all_cleared : List ℕ → List (ℕ × ℕ) → List ℕ
all_cleared file gaps = fold cleared file gaps

abbrev pub gaps_before : ℕ → List Slab → List (ℕ × ℕ)
gaps_before at [] = []
gaps_before at (s ∷ others) = (at, s.to - at) ∷ gaps_before (s.to + s.len) others

abbrev pub behind : ℕ → List Slab → ℕ
behind at [] = at
behind at (s ∷ others) = behind (s.to + s.len) others

abbrev pub gap_calls : ℕ → List (ℕ × ℕ) → List DiskCall
gap_calls z gaps = flat_map (λ g. stores z g.0 g.1) gaps

abbrev pub AreSpaced : ℕ → ℕ → List Slab → Type 0
AreSpaced at end [] = at ≤ end
AreSpaced at end (s ∷ others) = (at ≤ s.to) × AreSpaced (s.to + s.len) end others

pub record AreClearable (long z room at : ℕ) (ss : List Slab) : Type 0 where
  pub end : ℕ
  pub spaced : AreSpaced at end ss
  pub inside : end ≤ long
  pub fits : min z end ≤ room
