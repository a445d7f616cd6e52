-- Each window goes on where the one above it ended.
use Rattle.redef_mover.proofs.Words.{◌∙◌, ◌+◌, ◌*◌, ◌<◌, ap, ◌++◌, arith, with_end, slab_moved, slab_of, window_calls, calls_more, window_inside, windows_reach, nat_tests}
use Rattle.redef_mover.proofs.KeptLaws.{kept_more, outside_window, upper_kept}
use Rattle.redef_mover.proofs.ToldSteps.{told_end, told_more}
use Rattle.redef_mover.proofs.WindowLaws.{all_called, calls_before, upper, whole_moved, window_called, window_moved}
use Rattle.redef_mover.proofs.moving.move_slab.Goals as goal

pub loop-number-preserved : goal.loop-number-preserved
loop-number-preserved g c =
    let s = slab_of c.args.slab.now in
    let j = c.loop-number.number in
    let z = c.args.size in
    let inside : j * z < c.args.slab.now.len = window_inside _ _ _ _ c.requires.some c.div_ceil-number-end.ensures c.loop-number-test.true in
    let up = c.requires.movable.up in
    let room = c.requires.movable.inside in
    let later = c.in_ok-move_window.ensures.cause.later in
    let before = c.loop-number.invariant.faults in
    record {
      from = c.in_ok-move_window.ensures.from;
      len = c.in_ok-move_window.ensures.len ∙ c.loop-number.invariant.len;
      bytes = told_more _ _ _ _ _ _ (g.D.Disk.told c.args.disk.now) (λ file e. ap (λ w. slab_moved (slab_moved file (upper z s j)) w) c.window.ensures ∙ window_moved _ _ _ _ up inside (omega arith)) c.loop-number.invariant.bytes c.in_ok-move_window.ensures.bytes;
      calls = calls_more _ _ _ _ _ _ (ap (λ w. calls_before z s j ++ window_calls w) c.window.ensures ∙ window_called _ _ _) c.loop-number.invariant.calls c.in_ok-move_window.ensures.calls;
      faults = omega arith;
    }

pub returns-clause-bytes : goal.returns-clause-bytes
returns-clause-bytes g c =
    grind (arith, nat_tests, windows_reach, told_end, whole_moved, c.requires.some, c.div_ceil-number-end.ensures, g.D.Disk.told, c.loop-number.invariant.bytes)

pub returns-clause-calls : goal.returns-clause-calls
returns-clause-calls g c = c.loop-number.invariant.calls
    ∙ ap (λ calls. with_end (g.D.Disk.calls c.args.disk.now) calls) (all_called _ _ _ _ c.requires.some (omega arith) c.div_ceil-number-end.ensures)

pub returns-in_err-move_window-clause-kept : goal.returns-in_err-move_window-clause-kept
returns-in_err-move_window-clause-kept g c =
    kept_more _ _ _ _ _ (λ x h. outside_window _ _ _ _ _ c.window.ensures h) (upper_kept _ _ _ _ _ _ (g.D.Disk.told c.args.disk.now) c.requires.movable.inside c.loop-number.invariant.bytes) c.in_err-move_window.ensures.kept

pub returns-clause-kept : goal.returns-clause-kept
returns-clause-kept g c = upper_kept _ _ _ _ _ _ (g.D.Disk.told c.args.disk.now) c.requires.movable.inside c.loop-number.invariant.bytes
