-- The sizes are exact where they are below their limits.
use Rattle.nc_classic_c.proofs.Words.{◌≡◌, ◌∙◌, ℕ, Bool, true, cond, Result, Ok, Err, ap, sym, arith, Header, recsize, capped, Refusal, NcvSizes, file_end, sizes_for, nat_tests}
use Rattle.nc_base.specs.declared.answer.Code.TheVariants as code
use Rattle.nc_classic_c.specs.Sizes.{fits}
use Rattle.nc_classic_c.specs.declared.answers.Refusal.TheVariants as refusal
use Rattle.nc_classic_c.proofs.sizes.sizes_for.Goals as goal

abbrev sizes : ℕ → ℕ → NcvSizes
sizes record_size end = record { record_size = record_size; end = end }

abbrev told : Header → ℕ → Bool → Result NcvSizes Refusal
told header records b = cond b (Ok (sizes (recsize header) (file_end header records))) (Err (refusal.Asked code.ETooLarge))

sizes_found : (header : Header) (records size end : ℕ) → fits records header ≡ true → size ≡ recsize header → end ≡ capped (file_end header records)
    → sizes_for records header ≡ Ok (sizes size end)
sizes_found header records size end h s e = grind (arith, nat_tests)

pub returns-then-fits-clause-found : goal.returns-then-fits-clause-found
returns-then-fits-clause-found c = grind (arith, nat_tests, sizes_found, c.fits.ensures, c.if-fits.true, c.recsize.ensures.value, c.file_end.ensures)

pub returns-else-fits-clause-refused : goal.returns-else-fits-clause-refused
returns-else-fits-clause-refused c = ap (told c.args.header.now c.args.records) (sym c.fits.ensures ∙ c.if-fits.false)
