use Rattle.cdf_header.proofs.Words.{◌∙◌, sym}
use Rattle.cdf_header.proofs.Measured.{is_measured}
use Rattle.cdf_header.proofs.places.place_fault.Goals as goal

pub first_sharing-requires-clause-bounds : goal.first_sharing-requires-clause-bounds
first_sharing-requires-clause-bounds c = is_measured c.args.header.now (sym c.is_too_large-too_large.ensures ∙ c.if-too_large.false)
