-- One step of the sweep.
use Rattle.overlap_report.proofs.Words.{◌≡◌, ℕ, subst, arith, heap_items, entries_of, Swept}
use Rattle.overlap_report.proofs.ClaimSteps.{top_fit, ended_fit, ended_swept, later_fit, served_swept, none_swept}
use Rattle.overlap_report.proofs.serial.serve.Goals as goal

pub returns-in-None-clause-swept : goal.returns-in-None-clause-swept
returns-in-None-clause-swept c = λ seen s.
    none_swept seen c.bytes.whole.items (heap_items c.bytes.heap) c.bytes.place c.args.stop c.in-None.ensures c.bytes.invariant.in_order (c.bytes.invariant.swept seen s)

pub overflow_add-top_end : goal.overflow_add-top_end
overflow_add-top_end c = let fit = (top_fit (heap_items c.bytes.heap) c.in-Some.top c.bytes.place c.in-Some.ensures c.bytes.invariant.fit).1 in omega arith

pub part-requires-clause-low : goal.part-requires-clause-low
part-requires-clause-low c = (top_fit (heap_items c.bytes.heap) c.in-Some.top c.bytes.place c.in-Some.ensures c.bytes.invariant.fit).0

pub part-requires-clause-found : goal.part-requires-clause-found
part-requires-clause-found c = (top_fit (heap_items c.bytes.heap) c.in-Some.top c.bytes.place c.in-Some.ensures c.bytes.invariant.fit).2

pub bytes-preserved-then-top_end-place : goal.bytes-preserved-then-top_end-place
bytes-preserved-then-top_end-place c =
    let perm = c.drop_top.ensures.rest c.in-Some.top c.in-Some.ensures.0 in
    record {
      in_order = c.bytes.invariant.in_order;
      heap = c.drop_top.ensures.heap;
      fit = ended_fit (heap_items c.bytes.heap) (heap_items c.drop_top.new.heap) c.in-Some.top c.bytes.place perm c.bytes.invariant.fit;
      swept = λ seen s. ended_swept seen c.bytes.whole.items (heap_items c.bytes.heap) (heap_items c.drop_top.new.heap) c.in-Some.top c.bytes.place perm c.if-top_end-place.true (c.bytes.invariant.swept seen s);
    }

pub bytes-preserved : goal.bytes-preserved
bytes-preserved c = record {
  in_order = omega arith;
  heap = c.bytes.invariant.heap;
  fit = later_fit (heap_items c.bytes.heap) c.bytes.place c.min-end.result (omega arith) c.bytes.invariant.fit;
  swept = λ seen s. served_swept seen c.bytes.whole.items c.push.new.self.items (heap_items c.bytes.heap) c.in-Some.top c.part.result c.bytes.place c.min-end.result
      c.in-Some.ensures c.part.ensures c.in_ok-push.ensures.items (omega arith) (omega arith) (c.bytes.invariant.swept seen s);
}

pub returns-clause-swept : goal.returns-clause-swept
returns-clause-swept c = λ seen s.
    let end : c.bytes.place ≡ c.args.stop = omega (arith, c.bytes.invariant.in_order) in
    subst (λ (n : ℕ). Swept seen c.bytes.whole.items (entries_of (heap_items c.bytes.heap)) n) end (c.bytes.invariant.swept seen s)
