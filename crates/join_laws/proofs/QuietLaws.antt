-- A rank that ends independent data mode or makes the counts agree brings no put.
use Rattle.join_laws.proofs.Words.{◌≡◌, sym, subst, [], true, Header, Call, Offer, Want, Answered, raises, Rank, step, arith, nat_tests}
use Rattle.nc_base.specs.declared.step.Want.TheVariants.{Meet, Solo}

abbrev pub IsQuiet : Rank × Want → Type 0
IsQuiet (r, Answered a) = Unit {0}
IsQuiet (r, Solo o) = raises o.kind ≡ true → o.batch.puts ≡ []
IsQuiet (r, Meet o) = raises o.kind ≡ true → o.batch.puts ≡ []

pub quiet_step : (header : Header) (r : Rank) (c : Call) → IsQuiet (step header r c)
quiet_step header r c = grind (arith, nat_tests)

pub meets_quiet : (header : Header) (rank next : Rank) (c : Call) (o : Offer) → (next, Meet o) ≡ step header rank c → raises o.kind ≡ true → o.batch.puts ≡ []
meets_quiet header rank next c o e = subst IsQuiet (sym e) (quiet_step header rank c)
