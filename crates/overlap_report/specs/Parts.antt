-- Parts of entries. (own)
--     IsPartOf entry part       some bytes of an entry that follow one another, under its rank, request and slot
--     IsPartOfOne list part     it is a part of an entry of the list
use Rattle.std.specs.Prelude.{◌≡◌, ◌+◌, ◌-◌, ◌≤◌, List}
use Rattle.nc_base.specs.declared.plan.Owned.{Owned}
use Rattle.overlay_laws.specs.Entries.{In}

pub record IsPartOf (entry part : Owned) : Type 0 where
  pub begins : entry.extent.at ≤ part.extent.at
  pub ends : part.extent.at + part.extent.len ≤ entry.extent.at + entry.extent.len
  pub rank : part.rank ≡ entry.rank
  pub request : part.request ≡ entry.request
  pub slot : part.slot ≡ entry.slot
  pub from : part.from ≡ entry.from + (part.extent.at - entry.extent.at)

abbrev pub IsPartOfOne : List Owned → Owned → Type 0
IsPartOfOne list part = (entry : Owned) × In list entry × IsPartOf entry part
