-- The first extent begins at the first byte, and the last one ends behind the last.
use Rattle.nc_classic_c.proofs.Words.{◌≡◌, ◌+◌, ◌-◌, ◌^◌, ◌<◌, ◌≤◌, length, arith, at_in, first_of, spans, end_of, nat_tests}
use Rattle.nc_classic_c.proofs.CoverLaws.{reach_is}
use Rattle.nc_classic_c.proofs.covers.reach_of.Goals as goal

reach : (c : goal.In-Some-Some) → (c.in-Some-Some.first.now.at ≡ first_of (spans c.args.cover.now))
    × (c.in-Some-Some.last.now.at + c.in-Some-Some.last.now.len ≡ end_of (spans c.args.cover.now)) × (c.in-Some-Some.first.now.at ≤ c.in-Some-Some.last.now.at + c.in-Some-Some.last.now.len)
reach c = grind (arith, nat_tests, reach_is, c.first.ensures.value, c.last.ensures.value)

high : (c : goal.In-Some-Some) → c.in-Some-Some.last.now.at + c.in-Some-Some.last.now.len < 2 ^ 62
high c = grind (arith, nat_tests, at_in c.args.cover.now (length c.args.cover.now - 1) c.in-Some-Some.last.now, c.requires.ends, c.last.ensures.value)

pub overflow_add-result : goal.overflow_add-result
overflow_add-result c = let h = high c in omega arith

pub returns-in-Some-Some : goal.returns-in-Some-Some
returns-in-Some-Some c = let r = reach c in record { begin = r.0; end = r.1; order = r.2; limit = high c }
