-- The first extent begins at the first covered byte, and the last one ends behind the last.
use Rattle.collective_round.proofs.Words.{◌≡◌, ◌+◌, ◌-◌, ◌^◌, ◌<◌, ◌≤◌, length, arith, at_in, end_after, first_at, nat_tests}
use Rattle.collective_round.proofs.DomainCuts.{reach_is}
use Rattle.collective_round.proofs.parts.reach_of.Goals as goal

reach : (c : goal.In-Some-Some) → (c.in-Some-Some.first.now.at ≡ first_at c.args.cover.now)
    × (c.in-Some-Some.last.now.at + c.in-Some-Some.last.now.len ≡ end_after 0 c.args.cover.now) × (first_at c.args.cover.now ≤ end_after 0 c.args.cover.now)
reach c = grind (arith, nat_tests, reach_is, c.first.ensures.value, c.last.ensures.value)

high : (c : goal.In-Some-Some) → c.in-Some-Some.last.now.at + c.in-Some-Some.last.now.len < 2 ^ 62
high c = grind (arith, nat_tests, at_in c.args.cover.now (length c.args.cover.now - 1) c.in-Some-Some.last.now, c.requires.ends, c.last.ensures.value)

pub overflow_add-result : goal.overflow_add-result
overflow_add-result c = let h = high c in omega arith

pub overflow_sub-result : goal.overflow_sub-result
overflow_sub-result c = let r = reach c in let begin = r.0 in let end = r.1 in let order = r.2 in omega arith

pub returns-in-Some-Some-clause-end : goal.returns-in-Some-Some-clause-end
returns-in-Some-Some-clause-end c = let r = reach c in let begin = r.0 in let end = r.1 in let order = r.2 in omega arith

pub returns-in-Some-Some-clause-limit : goal.returns-in-Some-Some-clause-limit
returns-in-Some-Some-clause-limit c = let r = reach c in let begin = r.0 in let end = r.1 in let order = r.2 in let h = high c in omega arith
