-- The last of the records that are left is moved; the fixed variables come last.
use Rattle.opening_plan.proofs.Words.{◌+◌, ◌-◌, refl, ◌++◌, arith, reverse, all_calls, listed, below, fixed_last, fixed_listed, record_first, record_listed, nat_tests}
use Rattle.opening_plan.proofs.CallLaws.{last_left, moves_left}
use Rattle.opening_plan.proofs.moving.push_moves.Goals as goal

pub push_record-requires-clause-low : goal.push_record-requires-clause-low
push_record-requires-clause-low c =
    grind (arith, nat_tests, record_listed c.args.slabs.now c.deref.result.now (c.loop-record.record - 1) c.times.result.old, c.requires.low, c.deref.ensures.value)

pub push_record-requires-2-clause-low : goal.push_record-requires-2-clause-low
push_record-requires-2-clause-low c = λ s h. c.requires.low s (fixed_listed c.args.slabs.now c.deref-2.result.now 0 0 s c.deref-2.ensures.value refl refl h)

pub loop-record-init : goal.loop-record-init
loop-record-init c = refl

pub loop-record-preserved : goal.loop-record-preserved
loop-record-preserved c =
    let a = c.times.result.old in
    grind (arith, nat_tests, record_first c.args.slabs.now c.deref.result.now (c.loop-record.record - 1) c.loop-record.record a, moves_left (c.args.calls.now.items ++ all_calls c.args.window (reverse (listed c.args.slabs.now))), below c.args.slabs.now (c.loop-record.record - 1), below c.args.slabs.now c.loop-record.record, c.deref.ensures.value, c.loop-record.invariant, c.in_ok-push_record.ensures)

pub returns : goal.returns
returns c = grind (arith, nat_tests, fixed_last, last_left, below, c.loop-record.invariant, c.push_record-2.ensures)
