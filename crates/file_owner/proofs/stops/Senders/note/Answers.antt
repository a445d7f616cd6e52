-- An end is noted, and an offer leaves the others noted.
use Rattle.file_owner.proofs.StopLaws.{ended_more, noted, noted_end}
use Rattle.file_owner.proofs.stops.Senders.note.Goals as goal

pub returns-in-Ended : goal.returns-in-Ended
returns-in-Ended c = λ arrivals h. noted _ arrivals c.args.number c.args.item.now _ c.in-Ended.is (noted_end c.args.self.now.ended arrivals c.args.number _ h)

pub returns-in-Offer : goal.returns-in-Offer
returns-in-Offer c = λ arrivals h. ended_more c.args.self.now.ended arrivals _ h
