-- One more item was taken.
use Rattle.file_owner.proofs.StopLaws.{met_one}
use Rattle.file_owner.proofs.stops.stop_rest.Goals as goal

pub loop-preserved-else-all_ended : goal.loop-preserved-else-all_ended
loop-preserved-else-all_ended g c =
    met_one c.args.inbox.now c.loop.inbox c.take-number.new.inbox c.args.back.now c.loop.back c.stop_arrival.new.back c.args.senders.now.ended c.loop.senders.ended c.take-number.new.self.ended c.take-number.result
    c.loop.invariant c.take-number.ensures.items c.take-number.ensures.senders c.take-number.ensures.of c.take-number.ensures.number c.stop_arrival.ensures c.take-number.ensures.noted

pub loop-preserved : goal.loop-preserved
loop-preserved g c =
    met_one c.args.inbox.now c.loop.inbox c.take-number.new.inbox c.args.back.now c.loop.back c.stop_arrival.new.back c.args.senders.now.ended c.loop.senders.ended c.take-number.new.self.ended c.take-number.result
    c.loop.invariant c.take-number.ensures.items c.take-number.ensures.senders c.take-number.ensures.of c.take-number.ensures.number c.stop_arrival.ensures c.take-number.ensures.noted
