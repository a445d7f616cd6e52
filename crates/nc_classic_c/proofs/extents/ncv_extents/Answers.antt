-- The extents of the accepted region.
use Rattle.nc_classic_c.proofs.Words.{List, inl, inr, refl, sym, ◌∙◌, length-map, Extent, extents_of, extents_left, AreLaid, map, arith, nat_tests}
use Rattle.nc_classic_c.specs.Extents.{shown}
use Rattle.nc_classic_c.proofs.AcceptedRegions.{few_left, region_told}
use Rattle.nc_classic_c.proofs.Answering.{number_kept}
use Rattle.nc_classic_c.proofs.extents.ncv_extents.Goals as goal

pub new-extents-requires : goal.new-extents-requires
new-extents-requires c = grind (arith, nat_tests, c.in-Ok.ensures.ok, c.in-Ok.ensures.ok.header.1, c.in-Ok.ensures.ok.measured, c.in-Ok.ensures.ok.accepted)

pub lay-requires : goal.lay-requires
lay-requires c =
    record {
      ready = c.new-extents.ensures.ready;
      few =
          few_left c.args.bytes.now c.args.region.now c.args.records c.args.put c.in-Ok.accepted (extents_left c.new-extents.result)
          c.in-Ok.ensures.ok c.new-extents.ensures.extents;
    }

pub returns-in-Ok : goal.returns-in-Ok
returns-in-Ok c =
    inl (
      refl,
      region_told c.args.bytes.now c.args.region.now c.args.records c.args.put c.in-Ok.accepted extents_of (extents_left c.new-extents.result)
          (λ (es : List Extent). AreLaid (map shown es) c.args.from c.args.into.now c.lay.new.into c.lay.result) c.in-Ok.ensures.ok c.new-extents.ensures.extents
          (c.lay.ensures.laid, c.lay.ensures.total ∙ sym (length-map (extents_left c.new-extents.result) shown)),
    )

pub returns-in-Err : goal.returns-in-Err
returns-in-Err c = inr (c.in-Err.refusal, number_kept c.number_of.result c.in-Err.refusal c.number_of.ensures, (c.in-Err.ensures.refused, refl, refl))
