-- The domains of a collective step that have a byte, and a disk in parts, one for each of them. (own; after Thakur, Gropp and Lusk,
-- "Data Sieving and Collective I/O in ROMIO", 1999, section 5)
--     begin_or n domains          where the first domain begins, n where there is none
--     Adjoin domains              none is empty, and each begins where the one before it ends
--     AreDomains cover domains    domains that adjoin, from the first covered byte to the last
--     IsDivision list hints d     the cover of sorted entries, and the domains of the hints' aggregators, with the windows of the model
--     AreOn list cover domains n  entries that lie on a disk of n bytes, their cover, and the domains of it
--     part_between disk at stop   the part of a disk from `at` to `stop`, which answered no call
--     parts_of disk domains       a part for each domain, up to the begin of the next one; the last goes to the disk's end
--     IsFront domains old new     what is left of a disk before the first domain
--     AreSplit state old new ..   a disk is split at the begin of each domain
--     IsSplit domains ..          the parts of the last domains are split off, and those of all domains where nothing was refused
--     with_part disk part         the disk with a part behind it
--     with_parts disk parts       the disk with parts behind it, one after another
--     Follow at parts             the first begins at `at`, and each of the others where the one before it ends
use Rattle.std.specs.Prelude.{◌≡◌, ℕ, ◌+◌, ◌-◌, ◌≤◌, List, [], ◌∷◌, take, drop, flat_map, length, map, Result, OnOk}
use Rattle.nc_base.specs.declared.plan.Extent.{Extent}
use Rattle.nc_base.specs.declared.plan.Owned.{Owned}
use Rattle.nc_base.specs.declared.script.Hints.{Hints}
use Rattle.data_sieving.specs.Sieving.{LieOn}
use Rattle.nc_outside.specs.Cause.{both_faults}
use Rattle.nc_outside.specs.Told.{after, joined}
use Rattle.overlay_laws.specs.Entries.{ranges, HaveSame}
use Rattle.overlay_laws.specs.Walks.{end_after, first_at, told_of, IsCover}
use Rattle.serial_spec.specs.DeviceCalls.{collective_windows, in_order}
use Rattle.serial_spec.specs.Extents.{spans}
use Rattle.exchange_crew.specs.Parts.{PartState}
use Rattle.exchange_crew.specs.Turns.{turns_of}
use Rattle.collective_round.specs.declared.rounds.Division.{Division}

-- ---- domains

abbrev pub begin_or : ℕ → List Extent → ℕ
begin_or n [] = n
begin_or n (d ∷ domains) = d.at

abbrev pub Adjoin : List Extent → Type 0
Adjoin [] = Unit {0}
Adjoin (d ∷ domains) = (1 ≤ d.len) × (begin_or (d.at + d.len) domains ≡ d.at + d.len) × Adjoin domains

pub record AreDomains (cover domains : List Extent) : Type 0 where
  pub line : Adjoin domains
  pub begin : begin_or (end_after 0 cover) domains ≡ first_at cover
  pub end : end_after (first_at cover) domains ≡ end_after 0 cover

pub record IsDivision (list : List Owned) (hints : Hints) (d : Division) : Type 0 where
  pub covers : IsCover d.cover
  pub bytes : HaveSame (spans d.cover) (ranges list)
  pub few : length d.domains.items ≤ 64
  pub div : AreDomains d.cover d.domains.items
  pub windows : flat_map (λ domain. turns_of hints.cb_buffer domain d.cover) d.domains.items ≡ map told_of (collective_windows hints (in_order (ranges list)))

pub record AreOn (list : List Owned) (cover domains : List Extent) (len : ℕ) : Type 0 where
  pub covers : IsCover cover
  pub bytes : HaveSame (spans cover) (ranges list)
  pub on : LieOn 0 len list
  pub div : AreDomains cover domains

-- ---- parts

abbrev pub part_between : PartState → ℕ → ℕ → PartState
part_between disk at stop = record {
  from = at;
  len = stop - at;
  held = after (λ file. take (stop - at) (drop at file)) disk.held;
  calls = after (λ _. []) disk.calls;
  faults = 0;
}

abbrev pub parts_of : PartState → List Extent → List PartState
parts_of disk [] = []
parts_of disk (d ∷ domains) = part_between disk d.at (begin_or disk.len domains) ∷ parts_of disk domains

pub record IsFront (domains : List Extent) (old new : PartState) : Type 0 where
  pub from : new.from ≡ old.from
  pub len : new.len ≡ begin_or old.len domains
  pub held : new.held ≡ after (take (begin_or old.len domains)) old.held
  pub calls : new.calls ≡ old.calls

pub record AreSplit {D : Type 0} (state : D → PartState) (old new : PartState) (domains : List Extent) (parts : List D) : Type 0 where
  pub begin : old.from ≡ 0
  pub line : Adjoin domains
  pub room : end_after 0 domains ≤ old.len
  pub front_is : IsFront domains old new
  pub parts_are : map state parts ≡ parts_of old domains

pub record IsSplit {T E : Type 0} (domains : List Extent) (old new : PartState) (parts : List PartState) (result : Result T E) : Type 0 where
  -- how many domains are left
  pub at : ℕ
  pub front : IsFront (drop at domains) old new
  pub parts_are : parts ≡ parts_of old (drop at domains)
  pub all : OnOk result (at ≡ 0)

-- ---- joined again

abbrev pub with_part : PartState → PartState → PartState
with_part disk part = record {
  from = disk.from;
  len = disk.len + part.len;
  held = joined disk.held part.held;
  calls = joined disk.calls part.calls;
  faults = both_faults disk.faults part.faults;
}

abbrev pub with_parts : PartState → List PartState → PartState
with_parts disk [] = disk
with_parts disk (p ∷ parts) = with_parts (with_part disk p) parts

abbrev pub Follow : ℕ → List PartState → Type 0
Follow at [] = Unit {0}
Follow at (p ∷ parts) = (p.from ≡ at) × Follow (at + p.len) parts
