-- Each window goes on where the one before it ended.
use Rattle.redef_mover.proofs.Words.{◌≡◌, ◌∙◌, ◌+◌, ◌-◌, ◌*◌, ◌<◌, ◌≤◌, min, refl, ap, length, arith, with_end, calls_more, window_inside, windows_reach, stores_more, nat_tests}
use Rattle.redef_mover.proofs.KeptLaws.{first_kept, kept_long, kept_more, kept_written, outside_part}
use Rattle.redef_mover.proofs.ClearLaws.{all_stored, window_cleared, window_zeros, zeros_count}
use Rattle.redef_mover.proofs.ToldSteps.{told_more}
use Rattle.redef_mover.proofs.gaps.clear.Goals as goal

pub loop-window-preserved : goal.loop-window-preserved
loop-window-preserved g c =
    let x = c.args.at in
    let z = c.args.zeros.window in
    let len = c.args.len in
    let j = c.loop-window.window in
    let inside : j * z < len = window_inside z len j c.div_ceil-window-end.result c.requires.some c.div_ceil-window-end.ensures c.loop-window-test.true in
    let room : c.min.result ≤ length c.args.zeros.bytes.now = (let some = c.min.ensures in let most = c.requires.room in omega arith) in
    let zeros = window_zeros c.args.zeros.bytes.now c.first_of-bytes.result.now c.min.result c.requires.zeros room c.first_of-bytes.ensures in
    let later = c.in_ok-write_at.ensures.cause.later in
    let before = c.loop-window.invariant.faults in
    let end = c.requires.inside in
    record {
      from = c.in_ok-write_at.ensures.from ∙ c.loop-window.invariant.from;
      len = c.in_ok-write_at.ensures.len ∙ c.loop-window.invariant.len;
      bytes = told_more _ _ _ _ _ _ (g.D.Disk.told c.args.disk.now) (λ file e. window_cleared _ _ _ _ _ _ _ _ _ (omega arith) inside c.min.ensures zeros c.loop-window.invariant.from refl) c.loop-window.invariant.bytes c.in_ok-write_at.ensures.bytes;
      calls = calls_more _ _ _ _ _ _ (stores_more _ _ _ _ _ _ _ refl c.min.ensures (zeros_count _ _ zeros)) c.loop-window.invariant.calls c.in_ok-write_at.ensures.calls;
      faults = omega arith;
    }

pub returns-clause-bytes : goal.returns-clause-bytes
returns-clause-bytes g c = grind (arith, nat_tests, windows_reach, c.div_ceil-window-end.ensures, c.loop-window.invariant.bytes)

pub returns-clause-calls : goal.returns-clause-calls
returns-clause-calls g c = c.loop-window.invariant.calls
    ∙ ap (λ calls. with_end (g.D.Disk.calls c.args.disk.now) calls) (all_stored _ _ _ _ _ c.requires.some (omega arith) c.div_ceil-window-end.ensures)

pub returns-in_err-write_at-clause-kept : goal.returns-in_err-write_at-clause-kept
returns-in_err-write_at-clause-kept g c =
    let x = c.args.at in
    let z = c.args.zeros.window in
    let len = c.args.len in
    let j = c.loop-window.window in
    let inside : j * z < len = window_inside _ _ _ _ c.requires.some c.div_ceil-window-end.ensures c.loop-window-test.true in
    let room : c.min.result ≤ length c.args.zeros.bytes.now = (let some = c.min.ensures in let most = c.requires.room in omega arith) in
    let zeros = window_zeros _ _ _ c.requires.zeros room c.first_of-bytes.ensures in
    let end = c.requires.inside in
    let some = c.min.ensures in
    let zero = c.loop-window.invariant.from in
    let place : x + j * z - g.D.Disk.from c.loop-window.disk ≡ x + j * z = omega arith in
    let before = first_kept _ _ _ _ _ _ (g.D.Disk.told c.args.disk.now) (omega arith) end c.loop-window.invariant.bytes in
    kept_more _ _ _ _ _ (λ y h. outside_part _ _ _ _ _ (omega arith) (omega arith) h) before (kept_written _ _ _ _ _ _ _ _ _ (kept_long _ _ _ _ (g.D.Disk.told c.args.disk.now) before) refl place (zeros_count _ _ zeros) (omega arith) c.write_at.ensures.bytes c.write_at.ensures.refused)

pub returns-clause-kept : goal.returns-clause-kept
returns-clause-kept g c = first_kept _ _ _ _ _ _ (g.D.Disk.told c.args.disk.now) (omega arith) c.requires.inside c.loop-window.invariant.bytes
