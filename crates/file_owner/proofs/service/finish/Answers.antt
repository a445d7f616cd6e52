-- Where each number has ended nothing comes any more.
use Rattle.file_owner.proofs.HaltLaws.{finish_ended}
use Rattle.file_owner.proofs.service.finish.Goals as goal

pub returns-in-Ended : goal.returns-in-Ended
returns-in-Ended g c = finish_ended c.args.inbox.now c.args.back.now c.args.senders.now.ended c.args.halt c.in-Ended.is c.requires.ended
