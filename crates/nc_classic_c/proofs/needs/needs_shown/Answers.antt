-- Bytes and records are those of the same variable.
use Rattle.nc_classic_c.proofs.Words.{◌≡◌, ℕ, ◌*◌, Option, Var, Header, Region, product, size_of, records_of, needs_shown, NcvNeeds, arith, nat_tests, IfSome}
use Rattle.nc_classic_c.proofs.needs.needs_shown.Goals as goal

abbrev needs : ℕ → ℕ → NcvNeeds
needs bytes records = record { bytes = bytes; records = records }

needs_both : (header : Header) (g : Region) (o : Option Var) (a b : ℕ) → IfSome o (λ v. a ≡ product g.count * size_of v.kind)
    → IfSome o (λ v. b ≡ records_of header v g) → IfSome o (λ v. needs a b ≡ needs_shown header v g)
needs_both header g o a b h k = grind (arith, nat_tests)

pub returns : goal.returns
returns c = grind (arith, nat_tests, needs_both, c.bytes_of.ensures, c.records_needed.ensures)
