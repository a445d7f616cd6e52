-- The domain is the one that is cut.
use Rattle.nc_classic_c.proofs.Words.{inl, refl, ◌≡◌, ℕ, ◌<◌, ◌≤◌, ◌^◌, true, ltb, leb, leb-true, ltb-true, and_first, and_second, is_asked, arith, nat_tests}
use Rattle.nc_base.specs.declared.answer.Code.TheVariants as code
use Rattle.nc_classic_c.specs.declared.answers.Refusal.TheVariants as refusal
use Rattle.nc_classic_c.proofs.Answering.{number_kept}
use Rattle.nc_classic_c.proofs.domains.ncv_domain.Goals as goal

-- numbers within their limits
record AreWithin (lo hi aggregators unit k : ℕ) : Type 0 where
  order : lo ≤ hi
  limit : hi < 2 ^ 62
  number : k < aggregators
  few : aggregators ≤ 64
  least_unit : 1 ≤ unit
  greatest_unit : unit ≤ 2 ^ 25

asked_within : (lo hi aggregators unit number : ℕ) → is_asked lo hi aggregators unit number ≡ true → AreWithin lo hi aggregators unit number
asked_within lo hi aggregators unit number h = grind (arith, nat_tests, and_first, leb, ltb, leb-true, ltb-true, and_second)

pub cut-found-requires : goal.cut-found-requires
cut-found-requires c = grind (arith, nat_tests, asked_within, c.is_asked.ensures, c.if-is_asked.true)

pub returns-then-is_asked : goal.returns-then-is_asked
returns-then-is_asked c = inl (refl, record { begin = c.cut-found.ensures.begin; end = c.cut-found.ensures.end })

pub returns-else-is_asked : goal.returns-else-is_asked
returns-else-is_asked c = grind (arith, nat_tests, number_kept, c.number_of.ensures, c.is_asked.ensures, c.if-is_asked.false)
