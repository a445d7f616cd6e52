-- No byte stands twice in the extents of a region that was accepted.
use Rattle.std.proofs.Common.{rules, ◌≡◌, Some, slice_get, refl}
use Rattle.std.proofs.lemmas.Option.{slice_get_read}
use Rattle.nc_base.specs.declared.request.Direction.TheVariants as direction
use Rattle.nc_classic.specs.Accepted.{IsAccepted}
use Rattle.nc_classic.specs.Joined.{extents_of}
use Rattle.nc_classic_uses.proofs.find.Goals as goal

pub returns-in-Ok-listed-clause-once : goal.returns-in-Ok-listed-clause-once
returns-in-Ok-listed-clause-once c =
    let header = c.in-Ok.header in
    let v = c.in-Some.variable.now in
    let g = c.args.region.now in
    let place = c.in-Some.ensures.lookup in
    let there : slice_get header.vars c.args.var ≡ Some v = rw c.as_slice.ensures at (slice_get_read c.as_slice.result.now _ c.args.var v refl place.3.0 place.1) in
    let accepted : IsAccepted header c.args.var g = (header.records, direction.Get, search rules) in
    let same : extents_of header v g ≡ c.in-Ok-listed.extents.items = search rules in
    rw same at (c.extents_law.ensures.once header c.args.var v g c.in-Ok.ensures.sound there accepted)
