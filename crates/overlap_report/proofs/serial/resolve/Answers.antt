-- Each entry is served up to where the next begins.
use Rattle.overlap_report.proofs.Words.{◌≡◌, ℕ, suc, ◌+◌, ◌-◌, ◌^◌, take, drop, get_or, subst, sym, arith, heap_items, entry_in, In, entries_of}
use Rattle.overlap_report.proofs.CoverSteps.{entry_ends}
use Rattle.overlap_report.proofs.KeySteps.{nothing, next_at}
use Rattle.overlap_report.proofs.ClaimSteps.{pushed_fit, pushed_swept, at_dropped, later_begin, whole_swept, IsServed, all_served}
use Rattle.overlap_report.proofs.serial.resolve.Goals as goal

pub serve-requires-clause-order : goal.serve-requires-clause-order
serve-requires-clause-order c =
    c.loop-entry.invariant.later (get_or c.args.list.now c.loop-entry.entry-index nothing) (at_dropped c.args.list.now c.loop-entry.entry-index nothing c.loop-entry-test.true)

pub serve-requires-2-clause-order : goal.serve-requires-2-clause-order
serve-requires-2-clause-order c = let low = c.loop-entry.invariant.bound in omega arith

pub loop-entry-preserved : goal.loop-entry-preserved
loop-entry-preserved c =
    let ends = entry_ends c.args.list.now (2 ^ 62) c.loop-entry.entry-index nothing c.requires.ends c.loop-entry-test.true in
    let found = c.requires.found (get_or c.args.list.now c.loop-entry.entry-index nothing) (entry_in c.args.list.now c.loop-entry.entry-index nothing c.loop-entry-test.true) in
    record {
      heap = c.in_ok-push.ensures.heap_order c.in_ok-serve.ensures.heap;
      fit = pushed_fit (heap_items c.serve.new.heap) (heap_items c.push.new.self) c.of.result (get_or c.args.list.now c.loop-entry.entry-index nothing)
          (get_or c.args.list.now c.loop-entry.entry-index nothing).extent.at c.of.ensures c.in_ok-push.ensures.permutation (omega arith) ends found c.in_ok-serve.ensures.fit;
      swept = pushed_swept (take c.loop-entry.entry-index c.args.list.now) (take (c.loop-entry.entry-index + 1) c.args.list.now) c.serve.new.whole.items
          (heap_items c.serve.new.heap) (heap_items c.push.new.self) c.of.result (get_or c.args.list.now c.loop-entry.entry-index nothing)
          (next_at c.args.list.now c.loop-entry.entry-index c.loop-entry-test.true) c.of.ensures c.in_ok-push.ensures.permutation
          (c.in_ok-serve.ensures.swept (take c.loop-entry.entry-index c.args.list.now) c.loop-entry.invariant.swept);
      bound = omega arith;
      later = λ o m. later_begin c.args.list.now c.loop-entry.entry-index nothing o c.loop-entry-test.true c.requires.sorted
          (let next : c.loop-entry.entry-index + 1 ≡ suc c.loop-entry.entry-index = omega arith in subst (λ (n : ℕ). In (drop n c.args.list.now) o) next m);
    }

pub returns : goal.returns
returns c =
    let list = c.args.list.now in
    let i = c.loop-entry.entry-index in
    let pool = entries_of (heap_items c.serve-2.new.heap) in
    let swept = whole_swept list c.serve-2.new.whole.items pool i (2 ^ 64 - 1) (omega arith) (c.in_ok-serve-2.ensures.swept (take i list) c.loop-entry.invariant.swept) in
    let all = subst (IsServed list) (sym c.from_vec.ensures) (all_served list c.serve-2.new.whole.items pool (2 ^ 64 - 1) (omega arith) c.requires.ends c.requires.once swept) in
    record { resolved = all.resolved; parts = all.parts; line = all.line; held = all.held; ends = all.ends }
