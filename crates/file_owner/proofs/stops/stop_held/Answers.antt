-- One more number has its stop.
use Rattle.file_owner.proofs.Words.{ap, arith, stop_held, held_stops, Some, entry_read, nat_tests}
use Rattle.file_owner.proofs.PutLaws.{all_below, one_more}
use Rattle.file_owner.proofs.stops.stop_held.Goals as goal

pub loop-number-preserved : goal.loop-number-preserved
loop-number-preserved g c =
    one_more c.args.back.now c.loop-number.back c.stop_client.new.back c.loop-number.number (held_stops c.args.clients.now) (stop_held (Some c.index-clients-number.result)) c.loop-number.invariant
    (ap stop_held (entry_read c.args.clients.now c.loop-number.number c.index-clients-number.result c.loop-number-test.true c.index-clients-number.is)) c.stop_client.ensures

pub returns : goal.returns
returns g c =
    let lines = c.requires in
    grind (arith, nat_tests, all_below c.args.back.now c.loop-number.back c.loop-number.number (held_stops c.args.clients.now), c.loop-number-test.false, c.loop-number.invariant)
