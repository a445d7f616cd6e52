-- The hull as it is written is the old one with the bytes of what was taken.
use Rattle.put_exchange.proofs.Words.{◌≡◌, ◌∙◌, ◌+◌, List, ap, length, refl, calls_more, rules, arith, common_steps, after, cell_of, clips_from, clips_within, told_window, window_told_by, window_refused_by, Owned, Cell, write_cells, moved_down, Source, cells_in, put_window, Carry, IsFilledBy, err_not_ok, map, nat_tests}
use Rattle.put_exchange.proofs.PutLaws.{told_kept, told_whole}
use Rattle.put_exchange.proofs.laying.put_turn.Goals as goal

pub returns-clause-put : goal.returns-clause-put
returns-clause-put g c =
    let at = c.args.due.now.window.hull.at in
    let len = c.args.due.now.window.hull.len in
    let t = told_window c.args.due.now.window in
    let from = g.D.Disk.from c.args.part.now in
    let got = c.take_messages.ensures.laid.got in
    let room : length c.open_window-opened.new.buf ≡ len = first_of (search rules, grind (arith, common_steps)) in
    let bytes : (source : Source) (picked : List Owned) → Carry source t picked got → IsFilledBy t (cells_in source t picked)
    → g.D.Disk.held c.close_window.new.disk ≡ after (put_window source from t picked) (g.D.Disk.held c.args.part.now)
    = λ source picked carry whole.
    window_told_by
    (g.D.Disk.held c.args.part.now) (g.D.Disk.held c.open_window-opened.new.disk) (g.D.Disk.held c.close_window.new.disk) c.args.due.now.window.full
    c.open_window-opened.new.buf c.take_messages.new.buf from (g.D.Disk.from c.open_window-opened.new.disk) at len
    (g.D.Disk.len c.args.part.now) (cells_in source t picked)
    c.in_ok-opened.ensures.from c.in_ok-opened.ensures.bytes (c.take_messages.ensures.laid.laid carry.hull ∙ ap (λ (cells : List Cell). write_cells c.open_window-opened.new.buf (moved_down at cells)) carry.cells)
    (g.D.Disk.told c.args.part.now) room c.requires.low c.requires.high
    (clips_from at (at + len) (map (λ o. cell_of source o) picked) (omega arith))
    (clips_within at (at + len) (map (λ o. cell_of source o) picked) (omega arith))
    whole c.in_ok-opened.ensures.read c.in_ok-close_window.ensures.bytes in
    grind (arith, nat_tests, told_whole, c.take_messages.ensures.laid.taken, c.take_messages.ensures.laid.many, g.D.Disk.told, c.requires.low, c.requires.high)

pub returns-clause-calls : goal.returns-clause-calls
returns-clause-calls g c = calls_more _ _ _ _ _ _ refl c.in_ok-opened.ensures.calls c.in_ok-close_window.ensures.calls

pub returns-in_err-close_window-clause-put : goal.returns-in_err-close_window-clause-put
returns-in_err-close_window-clause-put g c =
    let at = c.args.due.now.window.hull.at in
    let len = c.args.due.now.window.hull.len in
    let t = told_window c.args.due.now.window in
    let from = g.D.Disk.from c.args.part.now in
    let got = c.take_messages.ensures.laid.got in
    let room : length c.open_window-opened.new.buf ≡ len = first_of (search rules, grind (arith, common_steps)) in
    record {
      got = got;
      taken = c.take_messages.ensures.laid.taken;
      many = c.take_messages.ensures.laid.many;
      bytes = λ source picked carry whole. err_not_ok _ _ c.from_residual-in_err-close_window.ensures.0;
      between = λ source picked carry whole.
          window_refused_by _ _ _ c.args.due.now.window.full c.open_window-opened.new.buf _ _ _ at _ (g.D.Disk.len c.args.part.now) _ c.in_ok-opened.ensures.from c.in_ok-opened.ensures.bytes (c.take_messages.ensures.laid.laid carry.hull ∙ ap (λ (cells : List Cell). write_cells c.open_window-opened.new.buf (moved_down at cells)) carry.cells)
          (g.D.Disk.told c.args.part.now) room c.requires.low c.requires.high
          (clips_from at (at + len) (map (λ o. cell_of source o) picked) (omega arith))
          (clips_within at (at + len) (map (λ o. cell_of source o) picked) (omega arith))
          whole c.in_ok-opened.ensures.read c.in_err-close_window.ensures.refused;
    }

pub returns-in_err-opened-clause-put : goal.returns-in_err-opened-clause-put
returns-in_err-opened-clause-put g c =
    let t = told_window c.args.due.now.window in
    grind (arith, nat_tests, err_not_ok, told_kept, c.take_messages.ensures.laid.got, c.take_messages.ensures.laid.taken, c.take_messages.ensures.laid.many, c.from_residual.ensures.0, c.in_err-opened.ensures.bytes)
