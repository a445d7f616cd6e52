-- The domains of a collective step: the division of the accessed bytes among aggregators. (own; after Thakur, Gropp and Lusk,
-- "Data Sieving and Collective I/O in ROMIO", 1999, section 5)
--     low_of lo unit                the multiple of the striping unit at lo or below
--     share_of lo hi nodes unit     how many bytes a domain has: a multiple of the unit
--     border lo hi nodes unit k     where domain k begins and the one before it ends
use Rattle.std.specs.Prelude.{ℕ, ◌+◌, ◌-◌, ◌*◌, ◌%◌, ◌<◌, ◌≤◌, max, min}
use Rattle.nc_base.specs.declared.plan.Extent.{Extent}
use Rattle.serial_spec.specs.DeviceCalls.{domain_size}

abbrev pub low_of : ℕ → ℕ → ℕ
low_of lo unit = lo - lo % unit

abbrev pub share_of : ℕ → ℕ → ℕ → ℕ → ℕ
share_of lo hi nodes unit = max 1 (domain_size (low_of lo unit) hi nodes unit)

abbrev pub border : ℕ → ℕ → ℕ → ℕ → ℕ → ℕ
border lo hi nodes unit k = min hi (max lo (low_of lo unit + k * share_of lo hi nodes unit))

-- the byte is one of the extent's
abbrev pub LiesIn : Extent → ℕ → Type 0
LiesIn e x = (e.at ≤ x) × (x < e.at + e.len)
