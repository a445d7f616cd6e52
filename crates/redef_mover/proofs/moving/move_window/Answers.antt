-- The bytes that are written are those that were read.
use Rattle.redef_mover.proofs.Words.{◌≡◌, ◌∙◌, ◌-◌, length, arith, length-take, on_ok_weaker}
use Rattle.redef_mover.proofs.KeptLaws.{kept_same, kept_written}
use Rattle.redef_mover.proofs.WindowLaws.{window_told}
use Rattle.redef_mover.proofs.moving.move_window.Goals as goal

pub returns-clause-bytes : goal.returns-clause-bytes
returns-clause-bytes g c = on_ok_weaker c.write_at.result
    (window_told _ _ _ _ _ _ _ _ _ (g.D.Disk.told c.args.disk.now) c.requires.old_end (length-take c.args.window.now.len c.args.buf.now ∙ (let room = c.requires.room in omega arith)) c.requires.from c.in_ok-read_at.ensures.from c.in_ok-read_at.ensures.read c.in_ok-read_at.ensures.bytes)
    c.write_at.ensures.bytes

pub returns-in_err-read_at-clause-kept : goal.returns-in_err-read_at-clause-kept
returns-in_err-read_at-clause-kept g c = kept_same _ _ _ c.in_err-read_at.ensures.bytes

pub returns-clause-kept : goal.returns-clause-kept
returns-clause-kept g c =
    let same = c.in_ok-read_at.ensures.from in
    let zero = c.requires.from in
    let place : c.args.window.now.to - g.D.Disk.from c.read_at.new.self ≡ c.args.window.now.to = omega arith in
    let room = c.requires.room in
    let long : length c.read_at.new.into ≡ c.args.window.now.len = c.read_at.auto.into ∙ length-take c.args.window.now.len c.args.buf.now ∙ omega arith in
    kept_written _ _ _ _ _ _ _ _ _ (g.D.Disk.told c.args.disk.now) c.in_ok-read_at.ensures.bytes place long c.requires.end c.write_at.ensures.bytes c.write_at.ensures.refused
