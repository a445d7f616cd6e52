-- The step is done, and its reply is put.
use Rattle.file_owner.proofs.Words.{ℕ, sym, refl, subst, inr, Reply, IsCount, dataset_setting, standing, count_longer, count_max, puts_of, told, done_torn, on_err}
use Rattle.file_owner.proofs.AloneSteps.{alone}
use Rattle.file_owner.proofs.PutLaws.{one_put}
use Rattle.file_owner.proofs.RefusedSteps.{refused_alone}
use Rattle.file_owner.proofs.owner.Owner.reply_alone.Goals as goal

pub returns-clause-done : goal.returns-clause-done
returns-clause-done g c =
    alone (dataset_setting c.args.dataset.now) c.args.dataset.now.hints.now c.args.solo.now.number c.args.solo.now.call c.args.solo.now.offer.now
    (standing g.D.Disk g.T.Told c.args.self.now c.args.out.now) _ c.in_ok-reply.reply (record {
      known_low = c.requires.known;
      pair = c.in_ok-reply.ensures.told;
      records = c.in_ok-reply.ensures.records;
      fits = c.in_ok-reply.ensures.fits;
      reply = c.in_ok-reply.ensures.reply;
      bytes = c.in_ok-reply.ensures.bytes;
      calls = c.in_ok-reply.ensures.calls;
      order = c.in_ok-note_step.ensures.order;
      heard = c.in_ok-note_step.ensures.heard;
      clients = refl;
      same_met = refl;
      same_records = refl;
      reached = c.max-self.ensures;
      lines = one_put c.args.out.now.back.now c.put_on.new.self c.args.solo.now.number (Reply c.in_ok-reply.reply) c.put_on.ensures.here c.put_on.ensures.others c.put_on.ensures.len;
    })

pub returns-clause-reached : goal.returns-clause-reached
returns-clause-reached g c h =
    subst (λ (n : ℕ). IsCount c.args.dataset.now.header.now (g.D.Disk.len c.solo_reply.new.disk) n) (sym c.max-self.ensures)
    (count_max c.args.dataset.now.header.now (g.D.Disk.len c.solo_reply.new.disk) c.args.self.now.reached c.in_ok-reply.reply.records
    (count_longer c.args.dataset.now.header.now (g.D.Disk.len c.args.out.now.disk.now) (g.D.Disk.len c.solo_reply.new.disk) c.args.self.now.reached c.in_ok-reply.ensures.longer h) (inr c.in_ok-reply.ensures.count))

pub returns-in_err-reply-clause-refused : goal.returns-in_err-reply-clause-refused
returns-in_err-reply-clause-refused g c =
    on_err _ (refused_alone (dataset_setting c.args.dataset.now) c.args.solo.now.number c.args.solo.now.call c.args.solo.now.offer.now
    (standing g.D.Disk g.T.Told c.args.self.now c.args.out.now)
    (g.D.Disk.held c.solo_reply.new.disk) c.in_err-reply.ensures.refused)

pub returns-in_err-note_step-clause-refused : goal.returns-in_err-note_step-clause-refused
returns-in_err-note_step-clause-refused g c =
    let s = dataset_setting c.args.dataset.now in
    let puts = puts_of (c.args.solo.now.number, c.args.solo.now.offer.now) in
    on_err _ (refused_alone s c.args.solo.now.number c.args.solo.now.call c.args.solo.now.offer.now
    (standing g.D.Disk g.T.Told c.args.self.now c.args.out.now)
    (g.D.Disk.held c.solo_reply.new.disk)
    (done_torn s puts (told s puts) (g.D.Disk.held c.args.out.now.disk.now) (g.D.Disk.held c.solo_reply.new.disk) c.in_ok-reply.ensures.bytes))
