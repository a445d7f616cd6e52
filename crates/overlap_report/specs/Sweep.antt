-- Entries given out byte by byte, each byte to the one of the greatest rank and slot. (own)
--     owned_of claim                  the entry that has begun
--     part_of o at end                the part of an entry between two places in it
--     Winner seen o y                 some entry that was seen has byte y as o has it, and none that holds y stands after it
--     Swept seen out pool p           the bytes before p of the entries that were seen are given out, and those that go on are in the pool
use Rattle.std.specs.Prelude.{◌≡◌, ℕ, ◌+◌, ◌-◌, ◌^◌, ◌<◌, ◌≤◌, List, map, ◌⊎◌, Some, slice_get}
use Rattle.std.specs.declared.cmp.Ordering.{Ordering}
use Rattle.std.specs.Ordering.{ordering_then, nat_cmp}
use Rattle.nc_base.specs.declared.plan.Owned.{Owned}
use Rattle.overlay_laws.specs.Entries.{In}
use Rattle.overlay_laws.specs.Lines.{extents, IsInLine}
use Rattle.overlap_report.specs.declared.serial.Claim.{Claim}
use Rattle.overlap_report.specs.Parts.{IsPartOfOne}
use Rattle.overlap_report.specs.SharedBytes.{Covers}

abbrev pub owned_of : Claim → Owned
owned_of c = record { extent = record { at = c.at; len = c.len }; rank = c.rank; request = c.request; slot = c.slot; from = c.from }

abbrev pub entries_of : List Claim → List Owned
entries_of claims = map owned_of claims

-- the order of claims: rank and slot first
abbrev pub claim_cmp : Claim → Claim → Ordering
claim_cmp a b =
    ordering_then (nat_cmp a.rank b.rank) (ordering_then (nat_cmp a.slot b.slot) (ordering_then (nat_cmp a.at b.at)
    (ordering_then (nat_cmp a.len b.len) (ordering_then (nat_cmp a.from b.from) (nat_cmp a.request b.request)))))

abbrev pub part_of : Owned → ℕ → ℕ → Owned
part_of o at end = record o { extent = record { at = at; len = end - at }; from = o.from + (at - o.extent.at) }

-- entries that have begun, with room for their numbers
abbrev pub AreFit : ℕ → List Owned → Type 0
AreFit place pool = (o : Owned) → In pool o → (o.extent.at ≤ place) × (o.extent.at + o.extent.len < 2 ^ 62) × (o.from + o.extent.len < 2 ^ 62)

abbrev pub StandsBy : Owned → Owned → Type 0
StandsBy q w = (q.rank < w.rank) ⊎ ((q.rank ≡ w.rank) × (q.slot ≤ w.slot))

pub record Winner (seen : List Owned) (o : Owned) (y : ℕ) : Type 0 where
  pub holder : Owned
  pub is_one : In seen holder
  pub covers : Covers holder y
  pub rank : o.rank ≡ holder.rank
  pub slot : o.slot ≡ holder.slot
  pub from : o.from + (y - o.extent.at) ≡ holder.from + (y - holder.extent.at)
  pub greatest : (q : Owned) → In seen q → Covers q y → StandsBy q holder

pub record Swept (seen out pool : List Owned) (p : ℕ) : Type 0 where
  pub won : (o : Owned) (y : ℕ) → In out o → Covers o y → Winner seen o y
  pub served : (q : Owned) (y : ℕ) → In seen q → y < p → Covers q y → (o : Owned) × In out o × Covers o y
  pub alive : (o : Owned) → In seen o → p < o.extent.at + o.extent.len → In pool o
  pub pooled : (o : Owned) → In pool o → In seen o
  pub low : (o : Owned) → In out o → (o.extent.at + o.extent.len ≤ p) × (1 ≤ o.extent.len)
  pub line : IsInLine (extents out)
  pub parts : (o : Owned) → In out o → IsPartOfOne seen o
  pub begun : (o : Owned) → In seen o → o.extent.at ≤ p

-- the first claim of a heap, after which none stands
abbrev pub IsTop : List Claim → Claim → Type 0
IsTop claims t = (slice_get claims 0 ≡ Some t) × ((q : Owned) → In (entries_of claims) q → StandsBy q (owned_of t))
