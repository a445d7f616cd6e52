-- Each window goes on where the one before it ended.
use Rattle.fill_records.proofs.Words.{◌≡◌, ◌∙◌, ◌+◌, ◌-◌, ◌*◌, ◌<◌, min, ap, refl, length, List, ℕ, arith, written, on_err, calls_more, window_inside, windows_reach, stores_more, nat_tests}
use Rattle.fill_records.proofs.TornLaws.{part_refused}
use Rattle.fill_records.proofs.WindowLaws.{stores_all, told_more, for_told, window_written}
use Rattle.fill_records.proofs.slabs.write_value.Goals as goal

pub window_of-window-requires-clause-copies : goal.window_of-window-requires-clause-copies
window_of-window-requires-clause-copies g c = grind (arith, nat_tests, c.deref.ensures.value, c.in_ok-copies.ensures.bytes)

pub window_of-window-requires-clause-room : goal.window_of-window-requires-clause-room
window_of-window-requires-clause-room g c = omega (arith, c.in_ok-copies.ensures.len, ap (λ (b : List ℕ). length b) c.deref.ensures.value, c.min.ensures)

pub window_of-window-requires-clause-inside : goal.window_of-window-requires-clause-inside
window_of-window-requires-clause-inside g c = grind (arith, nat_tests, window_inside, c.div_ceil-number-end.ensures, c.loop-number-test.true)

pub loop-number-preserved : goal.loop-number-preserved
loop-number-preserved g c =
    let done : ℕ = c.loop-number.number * c.args.size in
    let window = c.window_of-window.ensures in
    let inside : done < c.args.len = omega (arith, window.at, window.inside) in
    let place : c.args.begin + c.window_of-window.result.at ≡ c.args.begin + done = omega (arith, window.at) in
    let later = c.in_ok-write_at.ensures.cause.later in
    let before = c.loop-number.invariant.faults in
    record {
      from = c.in_ok-write_at.ensures.from ∙ c.loop-number.invariant.from;
      len = c.in_ok-write_at.ensures.len ∙ c.loop-number.invariant.len;
      bytes = grind (arith, nat_tests, told_more, for_told, window_written, c.requires.long, c.loop-number.invariant.from, g.D.Disk.told, c.loop-number.invariant.bytes, c.in_ok-write_at.ensures.bytes);
      calls = calls_more _ _ _ _ _ _ (stores_more _ _ _ _ _ _ _ place refl window.long) c.loop-number.invariant.calls c.in_ok-write_at.ensures.calls;
      faults = omega arith;
    }

pub returns-clause-bytes : goal.returns-clause-bytes
returns-clause-bytes g c = grind (arith, nat_tests, windows_reach, written, c.div_ceil-number-end.ensures, c.loop-number.invariant.bytes)

pub returns-clause-calls : goal.returns-clause-calls
returns-clause-calls g c =
    stores_all _ _ _ _ _ _ _ c.requires.some (omega arith) c.div_ceil-number-end.ensures c.loop-number.invariant.calls

pub returns-in_err-write_at-clause-refused : goal.returns-in_err-write_at-clause-refused
returns-in_err-write_at-clause-refused g c =
    let done : ℕ = c.loop-number.number * c.args.size in
    let window = c.window_of-window.ensures in
    let inside : done < c.args.len = omega (arith, window.at, window.inside) in
    let place : c.args.begin + c.window_of-window.result.at ≡ c.args.begin + done = omega (arith, window.at) in
    let room_all = c.requires.long in
    let long = window.long in
    let zero = c.loop-number.invariant.from in
    on_err c.from_residual-in_err-write_at.result
    (part_refused (g.D.Disk.held c.args.disk.now) (g.D.Disk.held c.loop-number.disk) (g.D.Disk.held c.write_at.new.self) c.args.value.now c.window_of-window.result.bytes.now c.args.begin c.args.len
    (min c.args.len done) (min c.args.len ((c.loop-number.number + 1) * c.args.size))
    (c.args.begin + c.window_of-window.result.at - g.D.Disk.from c.loop-number.disk) (g.D.Disk.len c.args.disk.now) (g.D.Disk.told c.args.disk.now) (omega arith) (omega arith) (omega arith) (omega arith)
    (λ file e. window_written _ _ file _ _ _ _ _ _ _ (omega arith) inside refl window.bytes c.loop-number.invariant.from place)
    c.loop-number.invariant.bytes c.in_err-write_at.ensures.refused)
