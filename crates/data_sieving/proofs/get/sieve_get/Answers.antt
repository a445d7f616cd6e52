-- Each window brings the blobs' bytes up to its end.
use Rattle.data_sieving.proofs.Words.{◌≡◌, ◌++◌, ◌∙◌, sym, ap, subst, List, length, take, drop, ℕ, Option, arith, flat_map, IfSome, refill, take-append_seam, loads, with_end, DiskCall, IsBegun, load_calls, entry_windows, AreAsLong, HasGot, entries_in, HasDone, IsNext, windows_from, entries_left, past_twice, all_left, walk_begin, on_err, nat_tests}
use Rattle.data_sieving.proofs.WindowSteps.{goes_on}
use Rattle.data_sieving.proofs.CallSteps.{none_begun}
use Rattle.data_sieving.proofs.ReachSteps.{served_in, hull_low, hull_high, hull_end, served_ends, served_filled}
use Rattle.data_sieving.proofs.GetSteps.{got_none, got_all}
use Rattle.data_sieving.proofs.CollectedSteps.{as_long_twice, fit_as_long, got_more}
use Rattle.data_sieving.proofs.LoopSteps.{none_carried, walk_ready, calls_begin, calls_more, calls_end}
use Rattle.data_sieving.proofs.get.sieve_get.Goals as goal

-- the blobs that were lent, as they come back
returned : (old now : List (List ℕ)) → AreAsLong old now → refill (length old) old now ≡ now
returned old now long = ap (λ (n : ℕ). take n (now ++ drop (length now) old)) (sym long.0) ∙ take-append_seam now (drop (length now) old)

returned_long : (old now : List (List ℕ)) → AreAsLong old now → AreAsLong old (refill (length old) old now)
returned_long old now long = subst (λ (bs : List (List ℕ)). AreAsLong old bs) (sym (returned old now long)) long

pub windows-init : goal.windows-init
windows-init g c = let lent = c.as_mut_slice-blobs.ensures.seen in grind (arith, nat_tests, walk_begin c.args.list.now (entries_left c.new.result), all_left c.args.list.now c.new.result.carried.items c.new.result.ahead.now c.new.ensures.carried, walk_ready c.args.list.now (entries_left c.new.result) (length c.args.buf.now), none_carried c.new.result.carried.items c.new.ensures.carried, got_none (g.D.Disk.held c.args.disk.now) (g.D.Disk.from c.args.disk.now) (g.D.Disk.len c.args.disk.now), calls_begin loads (length c.args.buf.now) c.args.list.now (g.D.Disk.calls c.args.disk.now), c.new.ensures.ahead, c.requires.sorted, c.requires.ends, c.requires.filled, c.requires.buffer, c.requires.on_disk, c.requires.fit)

pub read_window-requires-clause-low : goal.read_window-requires-clause-low
read_window-requires-clause-low g c κs within =
    omega (arith, hull_low c.in-Some.ensures.next c.args.list.now (g.D.Disk.from c.args.disk.now) (g.D.Disk.len c.args.disk.now) c.requires.on_disk c.windows.invariant.past, c.windows.invariant.from)

pub read_window-requires-clause-high : goal.read_window-requires-clause-high
read_window-requires-clause-high g c κs within =
    let high = hull_high c.in-Some.ensures.next c.args.list.now (g.D.Disk.from c.args.disk.now) (g.D.Disk.len c.args.disk.now) c.requires.on_disk c.windows.invariant.past in
    omega (arith, high, c.windows.invariant.from, c.windows.invariant.len)

pub read_window-requires-clause-hull : goal.read_window-requires-clause-hull
read_window-requires-clause-hull g c κs within = hull_end c.in-Some.ensures.next c.windows.invariant.left

pub read_window-requires-clause-ends : goal.read_window-requires-clause-ends
read_window-requires-clause-ends g c κs within = served_ends c.windows.invariant.left c.in-Some.ensures.next.front

pub read_window-requires-clause-filled : goal.read_window-requires-clause-filled
read_window-requires-clause-filled g c κs within = served_filled c.windows.invariant.left c.in-Some.ensures.next.front

pub read_window-requires-clause-fit : goal.read_window-requires-clause-fit
read_window-requires-clause-fit g c κs within = λ o m.
    fit_as_long c.args.into.now c.windows.blobs c.args.list.now c.windows.invariant.long c.requires.fit o
    (served_in c.windows.walk.from c.in-Some.next.stop c.args.list.now (entries_left c.windows.walk.entries) (entries_in c.in-Some.next) o c.windows.invariant.past c.in-Some.ensures.next.front m)

pub windows-preserved : goal.windows-preserved
windows-preserved g c =
    let next = subst (λ (n : ℕ). IsNext (entries_left c.windows.walk.entries) c.windows.walk.from c.windows.walk.size c.in-Some.next.window (entries_in c.in-Some.next) n)
    (sym c.pass.ensures.from) c.in-Some.ensures.next in
    let further = goes_on c.windows.invariant.left next in
    let later = c.in_ok-read_window.ensures.cause.later in
    let faults = c.windows.invariant.faults in
    record {
      past = grind (arith, nat_tests, past_twice, c.windows.invariant.past, c.pass.ensures.past);
      left = c.pass.ensures.left;
      across = c.pass.ensures.across;
      size = c.pass.ensures.size ∙ c.windows.invariant.size;
      from = c.in_ok-read_window.ensures.from ∙ c.windows.invariant.from;
      len = c.in_ok-read_window.ensures.len ∙ c.windows.invariant.len;
      bytes = c.in_ok-read_window.ensures.bytes ∙ c.windows.invariant.bytes;
      got = got_more next (g.D.Disk.held c.args.disk.now) (g.D.Disk.held c.windows.disk) (g.D.Disk.from c.args.disk.now) (g.D.Disk.from c.windows.disk) (g.D.Disk.len c.args.disk.now)
          c.args.list.now c.args.into.now c.windows.blobs c.read_window.new.blobs c.windows.invariant.bytes c.windows.invariant.from c.requires.on_disk
          c.requires.one_place c.requires.fit c.windows.invariant.past c.windows.invariant.got c.in_ok-read_window.ensures.read;
      long = as_long_twice c.args.into.now c.windows.blobs c.read_window.new.blobs c.windows.invariant.long c.in_ok-read_window.ensures.blobs;
      calls = subst (λ (n : ℕ). HasDone (flat_map loads (entry_windows n c.args.list.now)) (flat_map loads (windows_from n c.pass.new.self.from c.args.list.now))
          (g.D.Disk.calls c.args.disk.now) (g.D.Disk.calls c.read_window.new.disk)) (sym c.pass.ensures.size)
          (calls_more c.args.list.now c.windows.invariant.past c.windows.invariant.left next load_calls (flat_map loads (entry_windows c.windows.walk.size c.args.list.now))
          (g.D.Disk.calls c.args.disk.now) (g.D.Disk.calls c.windows.disk) (g.D.Disk.calls c.read_window.new.disk) c.in_ok-read_window.ensures.calls c.windows.invariant.calls);
      sure = λ s. c.in_ok-read_window.ensures.sure (c.windows.invariant.sure s);
      faults = omega arith;
    }

pub returns-in_err-read_window-clause-begun : goal.returns-in_err-read_window-clause-begun
returns-in_err-read_window-clause-begun g c =
    on_err c.from_residual.result
    (subst (λ (n : ℕ). IsBegun (flat_map loads (entry_windows n c.args.list.now)) (g.D.Disk.calls c.args.disk.now) (g.D.Disk.calls c.read_window.new.disk)) c.windows.invariant.size
    (subst (λ (m : Option (List DiskCall)). IsBegun (flat_map loads (entry_windows c.windows.walk.size c.args.list.now)) (g.D.Disk.calls c.args.disk.now) m) (sym c.in_err-read_window.ensures.calls)
    (none_begun (flat_map loads (entry_windows c.windows.walk.size c.args.list.now)) (flat_map loads (windows_from c.windows.walk.size c.windows.walk.from c.args.list.now))
    (g.D.Disk.calls c.args.disk.now) (g.D.Disk.calls c.windows.disk) c.windows.invariant.calls)))

pub returns-in_err-read_window-clause-blobs : goal.returns-in_err-read_window-clause-blobs
returns-in_err-read_window-clause-blobs g c =
    returned_long c.args.into.now c.read_window.new.blobs (as_long_twice c.args.into.now c.windows.blobs c.read_window.new.blobs c.windows.invariant.long c.in_err-read_window.ensures.blobs)

pub returns-clause-read : goal.returns-clause-read
returns-clause-read g c =
    subst (λ (bs : List (List ℕ)). IfSome (g.D.Disk.held c.args.disk.now) (λ file. HasGot (g.D.Disk.from c.args.disk.now) file c.args.list.now c.args.into.now bs))
    (sym (returned c.args.into.now c.windows.blobs c.windows.invariant.long))
    (got_all (g.D.Disk.held c.args.disk.now) (g.D.Disk.from c.args.disk.now) c.args.list.now (entries_left c.windows.walk.entries) c.windows.walk.from c.args.into.now c.windows.blobs
    c.in_default.ensures.none c.windows.invariant.past c.windows.invariant.got)

pub returns-clause-blobs : goal.returns-clause-blobs
returns-clause-blobs g c = returned_long c.args.into.now c.windows.blobs c.windows.invariant.long

pub returns-clause-calls : goal.returns-clause-calls
returns-clause-calls g c =
    calls_end loads c.windows.walk.size c.windows.walk.from c.args.list.now (entries_left c.windows.walk.entries) (flat_map loads (entry_windows c.windows.walk.size c.args.list.now))
    (g.D.Disk.calls c.args.disk.now) (g.D.Disk.calls c.windows.disk) c.in_default.ensures.none c.windows.invariant.past c.windows.invariant.calls
    ∙ ap (λ (n : ℕ). with_end (g.D.Disk.calls c.args.disk.now) (flat_map loads (entry_windows n c.args.list.now))) c.windows.invariant.size
