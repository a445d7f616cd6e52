-- After an error each offer that is held, and this one, has a stop.
use Rattle.file_owner.proofs.Words.{ap, ◌∙◌, Stop}
use Rattle.file_owner.proofs.ArriveSteps.{alone_stopped}
use Rattle.file_owner.proofs.PutLaws.{one_put}
use Rattle.file_owner.proofs.owner.Owner.do_alone.Goals as goal

pub returns-in-Err-clause-stopped : goal.returns-in-Err-clause-stopped
returns-in-Err-clause-stopped g c =
    alone_stopped c.args.solo.now.number c.args.solo.now.call c.args.solo.now.offer.now c.args.self.now.clients.items c.deref.result.now c.args.out.now.back.now c.reply_alone.new.out.back.now c.stop_held.new.back c.put_on.new.self c.in-Err.ensures.lines
    (c.deref.ensures.value ∙ ap (λ v. v.items) c.in-Err.ensures.clients) c.stop_held.ensures
    (one_put c.stop_held.new.back c.put_on.new.self c.args.solo.now.number Stop c.put_on.ensures.here c.put_on.ensures.others c.put_on.ensures.len)
