-- A get of a region that is accepted: its variable is there, and the region has positions in memory within the limits.
use Rattle.rank_core.proofs.Words.{◌≡◌, ℕ, ◌∙◌, ap, sym, refl, get_or, Option, Some, None, slice_get, get_or_from_slice_get, Header, Var, Region, Direction, check, check_some, IsMapped}
use Rattle.nc_base.specs.declared.answer.Code.TheVariants as code
use Rattle.rank_core.proofs.MappedLaws.{accepted_mapped}

some_mapped : (header : Header) (var : Option Var) (g : Region) (known : ℕ) (d : Direction) → check_some header var g known d ≡ code.Ok
    → (v : Var) × (var ≡ Some v) × IsMapped g
some_mapped header None g known d h = cc
some_mapped header (Some v) g known d h = (v, refl, accepted_mapped header v g known d h)

-- the variable is there, and the region has positions
pub mapped : (header : Header) (k : ℕ) (g : Region) (known : ℕ) (d : Direction) → check header k g known d ≡ code.Ok
    → (v : Var) × (slice_get header.vars k ≡ Some v) × IsMapped g
mapped header k g known d h = some_mapped header (slice_get header.vars k) g known d h

-- the variable that is read there
pub there : (header : Header) (k : ℕ) (g : Region) (known : ℕ) (d : Direction) (x : Var) → check header k g known d ≡ code.Ok → x ≡ get_or header.vars k x
    → slice_get header.vars k ≡ Some x
there header k g known d x ok at =
    let v = mapped header k g known d ok in
    v.1 ∙ ap Some (sym (at ∙ get_or_from_slice_get header.vars k v.0 x v.1))
