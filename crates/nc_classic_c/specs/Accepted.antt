-- Regions of the header that bytes begin with.
--     HasRegion bytes asked known put P         the header's check accepts the region, and P holds of header and variable
--     IsRegionRefusal bytes asked known put r   why it does not, the first cause of `check`, or why there is no header
--     Accepts bytes asked known put a           a is the region with the header by which it was accepted
use Rattle.std.specs.Prelude.{◌≡◌, ℕ, List, Bool, Some, slice_get}
use Rattle.nc_base.specs.declared.header.Header.{Header}
use Rattle.nc_base.specs.declared.header.Var.{Var}
use Rattle.nc_base.specs.declared.answer.Code.{Code}
use Rattle.nc_base.specs.declared.answer.Code.TheVariants as code
use Rattle.serial_spec.specs.HeaderFaults.{HasFault}
use Rattle.serial_spec.specs.RegionCheck.{check}
use Rattle.var_layout.specs.Measures.{AreMeasures}
use Rattle.nc_classic_c.specs.declared.accepted.Accepted.{Accepted}
use Rattle.nc_classic_c.specs.declared.answers.Refusal.{Refusal}
use Rattle.nc_classic_c.specs.declared.answers.Refusal.TheVariants as refusal
use Rattle.nc_classic_c.specs.declared.regions.NcvRegion.{NcvRegion}
use Rattle.nc_classic_c.specs.Headers.{first_bytes, IsHeaderOf}
use Rattle.nc_classic_c.specs.Regions.{region_of, direction_of}

abbrev pub code_of : Header → NcvRegion → ℕ → Bool → Code
code_of header asked known put = check header asked.var (region_of asked) known (direction_of put)

abbrev pub HasRegion : List ℕ → NcvRegion → ℕ → Bool → (Header → Var → Type 0) → Type 0
HasRegion bytes asked known put P =
    (header : Header) × (v : Var) × IsHeaderOf bytes header × (slice_get header.vars asked.var ≡ Some v)
    × (code_of header asked known put ≡ code.Ok) × P header v

abbrev pub IsRegionRefusal : List ℕ → NcvRegion → ℕ → Bool → Refusal → Type 0
IsRegionRefusal bytes asked known put refusal.Memory = Unit {0}
IsRegionRefusal bytes asked known put (refusal.Header e) = HasFault (first_bytes bytes) e
IsRegionRefusal bytes asked known put (refusal.Asked c) =
    (header : Header) × IsHeaderOf bytes header × (c ≡ code_of header asked known put) × (c ≡ code.Ok → ⊥)
IsRegionRefusal bytes asked known put _ = ⊥

pub record Accepts (bytes : List ℕ) (asked : NcvRegion) (known : ℕ) (put : Bool) (a : Accepted) : Type 0 where
  pub header : IsHeaderOf bytes a.header
  pub measured : AreMeasures a.header a.measures
  pub var : a.var ≡ asked.var
  pub region : a.region ≡ region_of asked
  pub accepted : check a.header a.var a.region known (direction_of put) ≡ code.Ok
