-- The entry that goes past the place is the first one.
use Rattle.aggregator_rounds.proofs.Words.{arith}
use Rattle.aggregator_rounds.proofs.SplitSteps.{entry_ends, ends_more, goes_past, no_entry, none_after}
use Rattle.aggregator_rounds.proofs.unserved.ends_by.Goals as goal

pub end_of-requires : goal.end_of-requires
end_of-requires c =
    let low = entry_ends c.args.list.now c.loop-i.i no_entry c.requires c.loop-i-test.true in
    omega arith

pub returns-then-end_of-place-clause-after : goal.returns-then-end_of-place-clause-after
returns-then-end_of-place-clause-after c = λ o g.
    let is = c.end_of.ensures in
    let past = c.if-end_of-place.true in
    goes_past c.args.place c.loop-i.i c.args.list.now no_entry o c.loop-i-test.true (omega arith) g

pub loop-i-preserved : goal.loop-i-preserved
loop-i-preserved c =
    let is = c.end_of.ensures in
    let low = c.if-end_of-place.false in
    ends_more c.args.place c.loop-i.i c.args.list.now no_entry c.loop-i-test.true (omega arith) c.loop-i.invariant

pub returns-clause-after : goal.returns-clause-after
returns-clause-after c = λ o g. none_after c.args.list.now o g
