-- One part more is taken back.
use Rattle.collective_round.proofs.Words.{arith, PartState, part_state, nat_tests}
use Rattle.collective_round.proofs.PartSplits.{follow_at, follow_first, joined_next, joined_one}
use Rattle.collective_round.proofs.parts.append_all.Goals as goal

pub loop-part-preserved : goal.loop-part-preserved
loop-part-preserved g c =
    let state : g.row.D.Denot → PartState
    = λ d. part_state g.D.Disk d in
    grind (arith, nat_tests, follow_first, follow_at, joined_next, joined_one, c.in-Some.ensures.steps.0, c.loop-part.invariant.follow, c.append.ensures.len, c.append.ensures.bytes, c.append.ensures.calls, c.append.ensures.faults, c.loop-part.invariant.whole)
