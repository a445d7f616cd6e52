use Rattle.plan_text.proofs.Cited.{◌+◌, refl, arith, next_pushed, window_lines}
use Rattle.plan_text.proofs.phases.push_windows.Goals as goal

pub loop-window-preserved : goal.loop-window-preserved
loop-window-preserved c =
    next_pushed (window_lines c.args.direction) c.args.out.now.items c.loop-window.out.items c.push_window.new.out.items c.args.windows.now
    c.loop-window.window-index (c.loop-window.window-index + 1) c.window-item.result (omega arith) c.window-item.is refl c.loop-window.invariant c.in_ok-push_window.ensures
