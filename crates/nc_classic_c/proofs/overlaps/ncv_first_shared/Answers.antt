-- An extent ends too far, two requests share a byte, or there is no memory.
use Rattle.nc_classic_c.proofs.Words.{inr, refl, sym, ◌∙◌}
use Rattle.nc_base.specs.declared.answer.Code.TheVariants as code
use Rattle.nc_classic_c.specs.declared.answers.Refusal.TheVariants as refusal
use Rattle.nc_classic_c.proofs.Answering.{number_kept}
use Rattle.nc_classic_c.proofs.overlaps.ncv_first_shared.Goals as goal

pub returns-then-not-ends_are_low : goal.returns-then-not-ends_are_low
returns-then-not-ends_are_low c =
    let r = refusal.Asked code.ETooLarge in
    inr (r, number_kept _ r c.number_of.ensures, (refl, sym c.ends_are_low.ensures ∙ c.if-not-ends_are_low.true, refl))

pub returns-in-Ok-Some : goal.returns-in-Ok-Some
returns-in-Ok-Some c =
    inr (refusal.Shared, number_kept _ refusal.Shared c.number_of-in-Ok-Some.ensures, (c.in-Ok-Some.found, sym c.in-Ok-Some.ensures ∙ c.in-Ok-Some.field-0-is, c.pair_shown.ensures))

pub returns-in-Err : goal.returns-in-Err
returns-in-Err c = inr (refusal.Memory, number_kept c.number_of-in-Err.result refusal.Memory c.number_of-in-Err.ensures, refl)
