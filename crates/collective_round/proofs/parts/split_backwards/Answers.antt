-- One domain more is split off.
use Rattle.collective_round.proofs.Words.{◌-◌, arith, Extent, PartState, part_state, nat_tests}
use Rattle.collective_round.proofs.PartSplits.{begins_there, front_more, last_left, part_split, turned_more}
use Rattle.collective_round.proofs.parts.split_backwards.Goals as goal

abbrev none : Extent
none = record { at = 0; len = 0 }

pub split_off-requires-clause-high : goal.split_off-requires-clause-high
split_off-requires-clause-high g c = grind (arith, nat_tests, last_left, begins_there, c.requires.from, c.loop-k.invariant.front)

pub loop-k-preserved : goal.loop-k-preserved
loop-k-preserved g c =
    let state : g.row.D.Denot → PartState
    = λ d. part_state g.D.Disk d in
    grind (arith, nat_tests, last_left c.args.domains.now c.loop-k.k (g.D.Disk.len c.args.disk.now) none c.requires.domains c.requires.room, front_more (state c.args.disk.now) (state c.loop-k.disk) (state c.split_off.new.self), part_split (state c.args.disk.now) (state c.loop-k.disk) (state c.in_ok-split_off.field-0), turned_more state c.loop-k.parts.items c.push_reserved.new.self.items c.in_ok-split_off.field-0, c.in_ok-split_off.ensures, c.requires.from, c.loop-k.invariant.front, c.in_ok-split_off.ensures.from, c.in_ok-split_off.ensures.len, c.in_ok-split_off.ensures.bytes, c.in_ok-split_off.ensures.calls, c.in_ok-split_off.ensures.other_from, c.in_ok-split_off.ensures.other_len, c.in_ok-split_off.ensures.other_bytes, c.in_ok-split_off.ensures.other_calls, c.in_ok-split_off.ensures.other_faults)
