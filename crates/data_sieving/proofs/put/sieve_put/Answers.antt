-- Each window brings the entries' bytes up to its end.
use Rattle.data_sieving.proofs.Words.{◌+◌, ◌∙◌, refl, sym, ap, subst, length, ℕ, arith, flat_map, overlays, with_end, IsBegun, store_calls, source_of, entry_windows, entries_in, HasDone, IsNext, windows_from, entries_left, past_twice, all_left, walk_begin, covered_place, on_err, nat_tests}
use Rattle.data_sieving.proofs.WindowSteps.{goes_on}
use Rattle.data_sieving.proofs.ReachSteps.{hull_low, hull_high, hull_end, served_ends, served_filled, served_found}
use Rattle.data_sieving.proofs.LoopSteps.{none_carried, walk_ready, calls_begin, calls_more, stores_begun, calls_end, put_begin, put_more, put_refused, put_end}
use Rattle.data_sieving.proofs.put.sieve_put.Goals as goal

pub windows-init : goal.windows-init
windows-init g c = record {
  past = walk_begin c.args.list.now (entries_left c.new.result) (all_left c.args.list.now c.new.result.carried.items c.new.result.ahead.now c.new.ensures.carried c.new.ensures.ahead);
  left = walk_ready c.args.list.now (entries_left c.new.result) (length c.args.buf.now) (all_left c.args.list.now c.new.result.carried.items c.new.result.ahead.now c.new.ensures.carried c.new.ensures.ahead) c.requires.sorted c.requires.ends c.requires.filled c.requires.buffer;
  across = none_carried c.new.result.carried.items c.new.ensures.carried;
  size = refl;
  from = refl;
  len = refl;
  bytes = put_begin (g.D.Disk.held c.args.disk.now) c.args.puts.now c.args.list.now (g.D.Disk.from c.args.disk.now) (g.D.Disk.len c.args.disk.now) (g.D.Disk.told c.args.disk.now) c.requires.on_disk;
  calls = calls_begin overlays (length c.args.buf.now) c.args.list.now (g.D.Disk.calls c.args.disk.now);
  sure = λ s. s;
  faults = omega arith;
}

pub put_window-requires-clause-low : goal.put_window-requires-clause-low
put_window-requires-clause-low g c κs within =
    omega (arith, hull_low c.in-Some.ensures.next c.args.list.now (g.D.Disk.from c.args.disk.now) (g.D.Disk.len c.args.disk.now) c.requires.on_disk c.windows.invariant.past, c.windows.invariant.from)

pub put_window-requires-clause-high : goal.put_window-requires-clause-high
put_window-requires-clause-high g c κs within =
    let high = hull_high c.in-Some.ensures.next c.args.list.now (g.D.Disk.from c.args.disk.now) (g.D.Disk.len c.args.disk.now) c.requires.on_disk c.windows.invariant.past in
    omega (arith, high, c.windows.invariant.from, c.windows.invariant.len)

pub put_window-requires-clause-hull : goal.put_window-requires-clause-hull
put_window-requires-clause-hull g c κs within = hull_end c.in-Some.ensures.next c.windows.invariant.left

pub put_window-requires-clause-ends : goal.put_window-requires-clause-ends
put_window-requires-clause-ends g c κs within = served_ends c.windows.invariant.left c.in-Some.ensures.next.front

pub put_window-requires-clause-filled : goal.put_window-requires-clause-filled
put_window-requires-clause-filled g c κs within = served_filled c.windows.invariant.left c.in-Some.ensures.next.front

pub put_window-requires-clause-found : goal.put_window-requires-clause-found
put_window-requires-clause-found g c κs within = served_found c.in-Some.ensures.next (source_of c.args.puts.now) c.args.list.now c.requires.found c.windows.invariant.past

pub put_window-requires-clause-whole : goal.put_window-requires-clause-whole
put_window-requires-clause-whole g c κs within = λ t x l h.
    covered_place (source_of c.args.puts.now) (entries_in c.in-Some.next) c.in-Some.next.window.hull.at (c.in-Some.next.window.hull.at + c.in-Some.next.window.hull.len) x
    (served_found c.in-Some.ensures.next (source_of c.args.puts.now) c.args.list.now c.requires.found c.windows.invariant.past) l h (c.in-Some.ensures.next.hull.full t x l h)

pub windows-preserved : goal.windows-preserved
windows-preserved g c =
    let next = subst (λ (n : ℕ). IsNext (entries_left c.windows.walk.entries) c.windows.walk.from c.windows.walk.size c.in-Some.next.window (entries_in c.in-Some.next) n)
    (sym c.pass.ensures.from) c.in-Some.ensures.next in
    let further = goes_on c.windows.invariant.left next in
    let later = c.in_ok-put_window.ensures.cause.later in
    let faults = c.windows.invariant.faults in
    record {
      past = grind (arith, nat_tests, past_twice, c.windows.invariant.past, c.pass.ensures.past);
      left = c.pass.ensures.left;
      across = c.pass.ensures.across;
      size = c.pass.ensures.size ∙ c.windows.invariant.size;
      from = c.in_ok-put_window.ensures.from ∙ c.windows.invariant.from;
      len = c.in_ok-put_window.ensures.len ∙ c.windows.invariant.len;
      bytes = put_more c.args.puts.now c.args.list.now (g.D.Disk.from c.args.disk.now) (g.D.Disk.from c.windows.disk) (g.D.Disk.len c.args.disk.now) c.requires.on_disk c.windows.invariant.from
          c.windows.invariant.past next (g.D.Disk.held c.args.disk.now) (g.D.Disk.held c.windows.disk) (g.D.Disk.held c.put_window.new.disk) (g.D.Disk.told c.args.disk.now)
          c.windows.invariant.bytes c.in_ok-put_window.ensures.bytes;
      calls = subst (λ (n : ℕ). HasDone (flat_map overlays (entry_windows n c.args.list.now)) (flat_map overlays (windows_from n c.pass.new.self.from c.args.list.now))
          (g.D.Disk.calls c.args.disk.now) (g.D.Disk.calls c.put_window.new.disk)) (sym c.pass.ensures.size)
          (calls_more c.args.list.now c.windows.invariant.past c.windows.invariant.left next store_calls (flat_map overlays (entry_windows c.windows.walk.size c.args.list.now))
          (g.D.Disk.calls c.args.disk.now) (g.D.Disk.calls c.windows.disk) (g.D.Disk.calls c.put_window.new.disk) c.in_ok-put_window.ensures.calls c.windows.invariant.calls);
      sure = λ s. c.in_ok-put_window.ensures.sure (c.windows.invariant.sure s);
      faults = omega arith;
    }

pub returns-in_err-put_window-clause-refused : goal.returns-in_err-put_window-clause-refused
returns-in_err-put_window-clause-refused g c =
    on_err c.from_residual.result
    (put_refused c.args.puts.now c.args.list.now (g.D.Disk.from c.args.disk.now) (g.D.Disk.from c.windows.disk) (g.D.Disk.len c.args.disk.now) c.requires.on_disk c.windows.invariant.from
    c.windows.invariant.past c.in-Some.ensures.next (g.D.Disk.held c.args.disk.now) (g.D.Disk.held c.windows.disk) (g.D.Disk.held c.put_window.new.disk) (g.D.Disk.told c.args.disk.now)
    c.windows.invariant.bytes c.in_err-put_window.ensures.refused)

pub returns-in_err-put_window-clause-begun : goal.returns-in_err-put_window-clause-begun
returns-in_err-put_window-clause-begun g c =
    on_err c.from_residual.result
    (subst (λ (n : ℕ). IsBegun (flat_map overlays (entry_windows n c.args.list.now)) (g.D.Disk.calls c.args.disk.now) (g.D.Disk.calls c.put_window.new.disk)) c.windows.invariant.size
    (stores_begun c.args.list.now c.windows.invariant.past c.windows.invariant.left c.in-Some.ensures.next (flat_map overlays (entry_windows c.windows.walk.size c.args.list.now))
    (g.D.Disk.calls c.args.disk.now) (g.D.Disk.calls c.windows.disk) (g.D.Disk.calls c.put_window.new.disk) c.in_err-put_window.ensures.begun c.windows.invariant.calls))

pub returns-clause-bytes : goal.returns-clause-bytes
returns-clause-bytes g c =
    put_end (g.D.Disk.held c.args.disk.now) (g.D.Disk.held c.windows.disk) c.args.puts.now c.args.list.now (entries_left c.windows.walk.entries) c.windows.walk.from
    (g.D.Disk.from c.args.disk.now) (g.D.Disk.len c.args.disk.now) (g.D.Disk.told c.args.disk.now) c.requires.on_disk c.in_default.ensures.none c.windows.invariant.past c.windows.invariant.bytes

pub returns-clause-calls : goal.returns-clause-calls
returns-clause-calls g c =
    calls_end overlays c.windows.walk.size c.windows.walk.from c.args.list.now (entries_left c.windows.walk.entries) (flat_map overlays (entry_windows c.windows.walk.size c.args.list.now))
    (g.D.Disk.calls c.args.disk.now) (g.D.Disk.calls c.windows.disk) c.in_default.ensures.none c.windows.invariant.past c.windows.invariant.calls
    ∙ ap (λ (n : ℕ). with_end (g.D.Disk.calls c.args.disk.now) (flat_map overlays (entry_windows n c.args.list.now))) c.windows.invariant.size
