-- The gaps of the fixed variables come first, then those of record after record, then the last one.
use Rattle.opening_plan.proofs.Words.{◌+◌, refl, ◌++◌, arith, gaps, gap_calls, gaps_before, listed, above, fixed_first, gaps_on, next_record, spaced_front, spaced_on, nat_tests}
use Rattle.opening_plan.proofs.CallLaws.{slabs_further, spaced_wider, zeros_left}
use Rattle.opening_plan.proofs.zeros.push_zeros.Goals as goal

pub push_gaps-requires-clause-spaced : goal.push_gaps-requires-clause-spaced
push_gaps-requires-clause-spaced c =
    let split = fixed_first c.args.slabs.now c.deref.result.now 0 0 c.deref.ensures.value refl refl in
    grind (arith, nat_tests, spaced_wider, spaced_front, above, c.requires.spaced)

pub loop-record-init : goal.loop-record-init
loop-record-init c =
    let split = fixed_first c.args.slabs.now c.deref.result.now 0 0 c.deref.ensures.value refl refl in
    let fixed = slabs_further 0 0 c.deref.result.now in
    record {
      spaced = spaced_on c.args.first c.in_ok-at.at c.args.end fixed (above c.args.slabs.now 0) (listed c.args.slabs.now) split c.in_ok-at.ensures.place c.requires.spaced;
      calls = zeros_left (c.args.calls.now.items ++ gap_calls c.args.window (gaps c.args.first c.args.end (listed c.args.slabs.now)))
          c.args.calls.now.items c.push_gaps.new.calls.items c.args.window (gaps_before c.args.first fixed)
          (gaps c.in_ok-at.at c.args.end (above c.args.slabs.now 0)) (gaps c.args.first c.args.end (listed c.args.slabs.now))
          (gaps_on c.args.first c.in_ok-at.at c.args.end fixed (above c.args.slabs.now 0) (listed c.args.slabs.now) split c.in_ok-at.ensures.place)
          refl c.in_ok-at.ensures.calls;
    }

pub push_gaps-requires-in-loop-record-clause-spaced : goal.push_gaps-requires-in-loop-record-clause-spaced
push_gaps-requires-in-loop-record-clause-spaced c =
    grind (arith, nat_tests, next_record, spaced_wider, spaced_front, above, c.deref-in-loop-record.ensures.value, c.loop-record-test.true, c.loop-record.invariant.spaced)

pub loop-record-preserved : goal.loop-record-preserved
loop-record-preserved c =
    let a = c.times.result.old in
    let b = c.times.result.new in
    let own = slabs_further a b c.deref-in-loop-record.result.now in
    let next = above c.args.slabs.now (c.loop-record.record + 1) in
    let all = above c.args.slabs.now c.loop-record.record in
    let split = next_record c.args.slabs.now c.deref-in-loop-record.result.now c.loop-record.record a b c.deref-in-loop-record.ensures.value c.loop-record-test.true c.times.ensures.old c.times.ensures.new in
    record {
      spaced = spaced_on c.loop-record.at c.in_ok-at-2.at c.args.end own next all split c.in_ok-at-2.ensures.place c.loop-record.invariant.spaced;
      calls = zeros_left (c.args.calls.now.items ++ gap_calls c.args.window (gaps c.args.first c.args.end (listed c.args.slabs.now)))
          c.loop-record.calls.items c.push_gaps-in-loop-record.new.calls.items c.args.window (gaps_before c.loop-record.at own)
          (gaps c.in_ok-at-2.at c.args.end next) (gaps c.loop-record.at c.args.end all)
          (gaps_on c.loop-record.at c.in_ok-at-2.at c.args.end own next all split c.in_ok-at-2.ensures.place)
          c.loop-record.invariant.calls c.in_ok-at-2.ensures.calls;
    }
