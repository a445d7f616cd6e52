-- The two least requests of those that hold a byte.
use Rattle.std.specs.Prelude.{◌≡◌, ℕ, List, if◌then◌else◌}
use Rattle.nc_base.specs.declared.plan.Owned.{Owned}
use Rattle.serial_spec.specs.SharedByte.{Key, same_key, key_below}
use Rattle.overlap_report.specs.declared.holders.Request.{Request}
use Rattle.overlap_report.specs.declared.holders.Least.{Least}
use Rattle.overlap_report.specs.declared.holders.Least.TheVariants.{Nobody, One, Two}
use Rattle.overlay_laws.specs.Entries.{In}
use Rattle.overlap_report.specs.SharedBytes.{key_of, Covers, HasHolder, ArePairAt}

abbrev pub key : Request → Key
key r = (r.rank, r.id)

abbrev pub with_key : Least → Request → Least
with_key Nobody r = One r
with_key (One a) r = if same_key (key r) (key a) then One a else if key_below (key r) (key a) then Two r a else Two a r
with_key (Two a b) r =
    if same_key (key r) (key a) then Two a b
    else if key_below (key r) (key a) then Two r a
    else if key_below (key r) (key b) then Two a r
    else Two a b

-- the least requests of those entries that hold the byte
abbrev pub AreLeast : List Owned → ℕ → Least → Type 0
AreLeast list x Nobody = (o : Owned) → In list o → Covers o x → ⊥
AreLeast list x (One a) = HasHolder list (key a) x × ((o : Owned) → In list o → Covers o x → key_of o ≡ key a)
AreLeast list x (Two a b) = ArePairAt list (key a) (key b) x
