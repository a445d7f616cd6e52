-- The hull as it is written is the old one with the entries' bytes.
use Rattle.put_exchange.proofs.Words.{◌≡◌, ◌+◌, length, map, refl, calls_more, rules, arith, common_steps, cell_of, clips_from, clips_within, window_told_by, window_refused_by, source_of, nat_tests}
use Rattle.put_exchange.proofs.PutLaws.{told_kept, told_whole}
use Rattle.put_exchange.proofs.in_turn.put_turn.Goals as goal

pub returns-clause-bytes : goal.returns-clause-bytes
returns-clause-bytes g c =
    let window = c.args.turn.now.window in
    let entries = c.args.turn.now.entries.now in
    let source = source_of c.args.batches.now in
    let at = window.hull.at in
    let len = window.hull.len in
    let room : length c.open_window.new.buf ≡ len = first_of (search rules, grind (arith, common_steps)) in
    window_told_by _ _ (g.D.Disk.held c.close_window.new.disk) window.full c.open_window.new.buf _ _ _ at _ (g.D.Disk.len c.args.part.now) _ c.in_ok-open_window.ensures.from c.in_ok-open_window.ensures.bytes c.lay_entries.ensures
    (g.D.Disk.told c.args.part.now) room c.requires.reach.low c.requires.reach.high
    (clips_from at (at + len) (map (λ o. cell_of source o) entries) (omega arith))
    (clips_within at (at + len) (map (λ o. cell_of source o) entries) (omega arith))
    c.requires.whole c.in_ok-open_window.ensures.read c.in_ok-close_window.ensures.bytes

pub returns-clause-between : goal.returns-clause-between
returns-clause-between g c = grind (arith, nat_tests, told_whole, returns-clause-bytes, g.D.Disk.told, c.requires.reach.low, c.requires.reach.high)

pub returns-clause-calls : goal.returns-clause-calls
returns-clause-calls g c = calls_more _ _ _ _ _ _ refl c.in_ok-open_window.ensures.calls c.in_ok-close_window.ensures.calls

pub returns-in_err-close_window-clause-between : goal.returns-in_err-close_window-clause-between
returns-in_err-close_window-clause-between g c =
    let window = c.args.turn.now.window in
    let entries = c.args.turn.now.entries.now in
    let source = source_of c.args.batches.now in
    let at = window.hull.at in
    let len = window.hull.len in
    let room : length c.open_window.new.buf ≡ len = first_of (search rules, grind (arith, common_steps)) in
    window_refused_by _ _ _ window.full c.open_window.new.buf _ _ _ at _ (g.D.Disk.len c.args.part.now) _ c.in_ok-open_window.ensures.from c.in_ok-open_window.ensures.bytes c.lay_entries.ensures
    (g.D.Disk.told c.args.part.now) room c.requires.reach.low c.requires.reach.high
    (clips_from at (at + len) (map (λ o. cell_of source o) entries) (omega arith))
    (clips_within at (at + len) (map (λ o. cell_of source o) entries) (omega arith))
    c.requires.whole c.in_ok-open_window.ensures.read c.in_err-close_window.ensures.refused

pub returns-in_err-open_window-clause-between : goal.returns-in_err-open_window-clause-between
returns-in_err-open_window-clause-between g c = grind (arith, nat_tests, told_kept, c.in_err-open_window.ensures.bytes)
