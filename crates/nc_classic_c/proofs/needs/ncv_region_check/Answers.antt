-- What the accepted region needs.
use Rattle.nc_classic_c.proofs.Words.{◌≡◌, inl, inr, refl, direction_of, needs_shown, NcvNeeds}
use Rattle.nc_classic_c.proofs.AcceptedRegions.{region_told}
use Rattle.nc_classic_c.proofs.Answering.{number_kept}
use Rattle.nc_classic_c.proofs.needs.ncv_region_check.Goals as goal

pub needs_shown-requires : goal.needs_shown-requires
needs_shown-requires c = (c.args.records, direction_of c.args.put, c.in-Ok.ensures.ok.accepted)

pub returns-in-Ok : goal.returns-in-Ok
returns-in-Ok c =
    inl (
      refl,
      region_told c.args.bytes.now c.args.region.now c.args.records c.args.put c.in-Ok.accepted needs_shown c.needs_shown.result
          (λ (n : NcvNeeds). c.needs_shown.result ≡ n) c.in-Ok.ensures.ok c.needs_shown.ensures refl,
    )

pub returns-in-Err : goal.returns-in-Err
returns-in-Err c = inr (c.in-Err.refusal, number_kept c.number_of.result c.in-Err.refusal c.number_of.ensures, (c.in-Err.ensures.refused, refl))
