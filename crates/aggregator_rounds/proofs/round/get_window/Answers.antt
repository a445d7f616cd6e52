-- The bytes of the range are those of the hull.
use Rattle.aggregator_rounds.proofs.Words.{◌-◌, arith}
use Rattle.aggregator_rounds.proofs.RoundLaws.{got_read}
use Rattle.aggregator_rounds.proofs.round.get_window.Goals as goal

pub returns-clause-read : goal.returns-clause-read
returns-clause-read g c =
    got_read (g.D.Disk.held c.args.disk.now) c.read_at.new.into (c.args.window.now.hull.at - g.D.Disk.from c.args.disk.now) _ c.args.window.now.hull.len
    (g.D.Disk.len c.args.disk.now) (g.D.Disk.told c.args.disk.now) c.requires.room (omega (arith, c.requires.low, c.requires.high)) c.in_ok-read_at.ensures.read
