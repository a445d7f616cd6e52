use Rattle.redef_mover.proofs.Words.{◌≡◌, ◌-◌, arith, length, listed, on_err, on_err_weaker, on_ok_weaker, nat_tests}
use Rattle.redef_mover.proofs.CallsLaws.{rewrite_called}
use Rattle.redef_mover.proofs.ClearLaws.{spaced_low}
use Rattle.redef_mover.proofs.CutLaws.{cut_cleared, cut_grown, cut_headed, cut_moved}
use Rattle.redef_mover.proofs.ToldSteps.{when_ok}
use Rattle.redef_mover.proofs.carried.rewrite.Goals as goal

pub move_all-requires-clause-slabs : goal.move_all-requires-clause-slabs
move_all-requires-clause-slabs g c κs within = grind (arith, nat_tests, c.requires.slabs.movable, c.in_ok-grow_to.ensures.len, c.requires.slabs.steps)

pub write_at-requires-clause-high : goal.write_at-requires-clause-high
write_at-requires-clause-high g c =
    let low = spaced_low (length c.args.layout.now.head.now) c.args.layout.now.end (listed c.args.layout.now.slabs.now) c.requires.spaced in
    let grown = c.in_ok-grow_to.ensures.len in
    let moved = c.in_ok-move_all.ensures.len in
    let cleared = c.in_ok-clear_gaps.ensures.len in
    omega arith

pub returns-clause-calls : goal.returns-clause-calls
returns-clause-calls g c = on_ok_weaker c.write_at.result
    (λ e. rewrite_called _ _ _ _ _ _ _ _ _ _ _ (g.D.Disk.told c.args.disk.now) c.in_ok-grow_to.ensures.calls c.in_ok-move_all.ensures.calls c.in_ok-clear_gaps.ensures.calls e)
    (when_ok c.write_at.result (g.D.Disk.calls c.write_at.new.self) _ _ c.write_at.ensures.calls)

pub returns-in_err-grow_to-clause-refused : goal.returns-in_err-grow_to-clause-refused
returns-in_err-grow_to-clause-refused g c = on_err c.from_residual.result (cut_grown (listed c.args.layout.now.slabs.now) c.args.layout.now.head.now c.args.layout.now.end c.requires.spaced _ _ c.in_err-grow_to.ensures.grown)

pub returns-in_err-move_all-clause-refused : goal.returns-in_err-move_all-clause-refused
returns-in_err-move_all-clause-refused g c =
    on_err c.from_residual-in_err-move_all.result (cut_moved (listed c.args.layout.now.slabs.now) c.args.layout.now.head.now c.args.layout.now.end c.requires.spaced _ _ _ c.in_ok-grow_to.ensures.grown c.in_err-move_all.ensures.kept)

pub returns-in_err-clear_gaps-clause-refused : goal.returns-in_err-clear_gaps-clause-refused
returns-in_err-clear_gaps-clause-refused g c =
    on_err c.from_residual-in_err-clear_gaps.result
    (cut_cleared (listed c.args.layout.now.slabs.now) c.args.layout.now.head.now c.args.layout.now.end c.requires.spaced _ _ _ _ c.in_ok-grow_to.ensures.grown c.in_ok-move_all.ensures.kept c.in_err-clear_gaps.ensures.kept)

pub returns-clause-refused : goal.returns-clause-refused
returns-clause-refused g c =
    let zero = c.in_ok-clear_gaps.ensures.from in
    let place : 0 - g.D.Disk.from c.clear_gaps.new.disk ≡ 0 = omega arith in
    on_err_weaker c.write_at.result
    (λ torn. cut_headed (listed c.args.layout.now.slabs.now) c.args.layout.now.head.now c.args.layout.now.end c.requires.spaced _ _ _ _ _ _ place c.in_ok-grow_to.ensures.bytes c.in_ok-grow_to.ensures.grown c.in_ok-move_all.ensures.kept c.in_ok-clear_gaps.ensures.kept torn)
    c.write_at.ensures.refused
