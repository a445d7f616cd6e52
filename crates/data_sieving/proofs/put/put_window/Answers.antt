-- The hull as it is written is the old one with the entries' bytes.
use Rattle.data_sieving.proofs.Words.{◌≡◌, ◌+◌, length, rules, arith, common_steps, clips_from, clips_within, window_told_by, window_refused_by, window_begun, put_cells, entries_in, on_err}
use Rattle.data_sieving.proofs.put.put_window.Goals as goal

pub returns-clause-bytes : goal.returns-clause-bytes
returns-clause-bytes g c =
    let w = c.args.next.now.window in
    let cells = put_cells c.args.puts.now (entries_in c.args.next.now) in
    let room : length c.open_window.new.buf ≡ w.hull.len = first_of (search rules, grind (arith, common_steps)) in
    window_told_by _ _ (g.D.Disk.held c.close_window.new.disk) w.full c.open_window.new.buf _ _ _ w.hull.at _ (g.D.Disk.len c.args.disk.now) _
    c.in_ok-open_window.ensures.from c.in_ok-open_window.ensures.bytes c.lay_window.ensures (g.D.Disk.told c.args.disk.now) room c.requires.low c.requires.high
    (clips_from w.hull.at (w.hull.at + w.hull.len) cells (omega arith)) (clips_within w.hull.at (w.hull.at + w.hull.len) cells (omega arith))
    c.requires.whole c.in_ok-open_window.ensures.read c.in_ok-close_window.ensures.bytes

pub returns-in_err-close_window-clause-refused : goal.returns-in_err-close_window-clause-refused
returns-in_err-close_window-clause-refused g c =
    let w = c.args.next.now.window in
    let cells = put_cells c.args.puts.now (entries_in c.args.next.now) in
    let room : length c.open_window.new.buf ≡ w.hull.len = first_of (search rules, grind (arith, common_steps)) in
    on_err c.from_residual-in_err-close_window.result
    (window_refused_by _ _ _ w.full c.open_window.new.buf _ _ _ w.hull.at _ (g.D.Disk.len c.args.disk.now) _
    c.in_ok-open_window.ensures.from c.in_ok-open_window.ensures.bytes c.lay_window.ensures (g.D.Disk.told c.args.disk.now) room c.requires.low c.requires.high
    (clips_from w.hull.at (w.hull.at + w.hull.len) cells (omega arith)) (clips_within w.hull.at (w.hull.at + w.hull.len) cells (omega arith))
    c.requires.whole c.in_ok-open_window.ensures.read c.in_err-close_window.ensures.refused)

pub returns-in_err-close_window-clause-begun : goal.returns-in_err-close_window-clause-begun
returns-in_err-close_window-clause-begun g c =
    on_err c.from_residual-in_err-close_window.result
    (window_begun c.args.next.now.window.full c.args.next.now.window.hull.at c.args.next.now.window.hull.len (g.D.Disk.calls c.args.disk.now) (g.D.Disk.calls c.open_window.new.disk)
    (g.D.Disk.calls c.close_window.new.disk) c.in_ok-open_window.ensures.calls c.in_err-close_window.ensures.calls)
