-- The step is planned, and the rank has heard zeros.
use Rattle.run_plan.proofs.Words.{◌≡◌, ◌∙◌, refl, ap, max, inr, arith, Solo, puts_of, needed_now, advance, setting_of, lawful_hints, ranks_lawful, StepPlan, asking, calls_of, arrived, alone_waits, arrived_free, fits_open, heard_known, order_is, count_begins, count_longer, count_max, asked_fit, get_of, put_of, ranked_puts, alone_heard, heard_runner, order_in}
use Rattle.run_plan.proofs.CountSteps.{grown, solo_counted}
use Rattle.run_plan.proofs.FollowLaws.{order_more}
use Rattle.run_plan.proofs.SoloLaws.{alone_device, alone_planned}
use Rattle.run_plan.proofs.steps.do_alone.Goals as goal

pub invariant_of-dataset-clause-lawful : goal.invariant_of-dataset-clause-lawful
invariant_of-dataset-clause-lawful g c = lawful_hints c.args.lent.now.script.now c.args.lent.now.lawful

pub plan_solo-requires : goal.plan_solo-requires
plan_solo-requires g c =
    let fit = asked_fit _ _ _ _ c.requires.asked c.requires.known in
    record {
      few = fit.few;
      rank = omega (arith, (ranks_lawful c.args.lent.now.script.now c.args.lent.now.lawful).most, c.requires.number);
      puts = ranked_puts c.args.lent.now.header.now c.args.number c.args.offer.now.batch.puts (put_of _ _ fit.sound);
      own = fit.sound.own c.args.number;
      gets = get_of _ _ _ fit.sound fit.known;
      long = count_begins _ _ _ c.requires.known;
    }

pub zero_reply-requires : goal.zero_reply-requires
zero_reply-requires g c = let fit = asked_fit _ _ _ _ c.requires.asked c.requires.known in record { gets = λ p m. (get_of _ _ _ fit.sound fit.known p m).accepted }

pub hear-requires : goal.hear-requires
hear-requires g c =
    let waits = alone_waits _ _ _ _ _ _ c.requires.asks in
    record {
      waits = waits.0;
      fits = fits_open _ c.args.lent.now.header.now c.args.runner.now.rank.header c.args.offer.now.batch.gets c.in_ok-reply.reply.got c.requires.header waits.1 c.in_ok-reply.ensures.row;
    }

pub returns-clause-way : goal.returns-clause-way
returns-clause-way g c =
    let order = order_in c.args.progress.now.steps in
    rw (order_is c.args.number _ c.args.runner.now.answers order (order_in c.add.new.self.steps) (order_more c.args.progress.now.steps c.add.new.self.steps _ c.in_ok-add.ensures.steps) c.len-call.ensures)
    (alone_heard _ _ order _ _ c.args.runner.now c.hear.new.self _ c.in_ok-reply.reply c.requires.header c.requires.asks c.in_ok-hear.ensures.heard)

pub returns-clause-known : goal.returns-clause-known
returns-clause-known g c =
    let header = c.args.lent.now.header.now in
    let s = setting_of c.args.lent.now.script.now header in
    let puts = puts_of (c.args.number, c.args.offer.now) in
    let known = c.args.runner.now.rank.state.known in
    let waits = (alone_waits _ _ _ _ _ _ c.requires.asks).0 in
    let fit = asked_fit _ _ _ _ c.requires.asked c.requires.known in
    let size = c.add.ensures.size ∙ c.in_ok-planned.ensures.size in
    let are = ranked_puts header c.args.number c.args.offer.now.batch.puts (put_of _ _ fit.sound) in
    let count = solo_counted s puts c.args.progress.now.size c.add.new.self.size c.args.offer.now.known c.args.lent.now.sound are fit.known size in
    let told : c.in_ok-reply.reply.records ≡ max c.args.offer.now.known (needed_now s puts) = c.in_ok-reply.ensures.records ∙ ap (max c.args.offer.now.known) c.in_ok-planned.ensures.records in
    let longer = count_longer _ _ c.add.new.self.size known (grown c.args.progress.now.size c.add.new.self.size _ size) c.requires.known in
    rw (heard_known c.args.runner.now c.hear.new.self c.in_ok-reply.reply waits c.in_ok-hear.ensures.heard) (count_max header c.add.new.self.size known c.in_ok-reply.reply.records longer (inr (rw told count)))

pub returns-clause-longer : goal.returns-clause-longer
returns-clause-longer g c = grown c.args.progress.now.size c.add.new.self.size _ (c.add.ensures.size ∙ c.in_ok-planned.ensures.size)

pub returns-clause-planned : goal.returns-clause-planned
returns-clause-planned g c =
    let header = c.args.lent.now.header.now in
    let script = c.args.lent.now.script.now in
    let s = setting_of script header in
    let own = calls_of script c.args.number in
    let p = c.in_ok-planned in
    let step : StepPlan = record { mark = Solo c.args.number c.len-call.result; callers = c.in_ok-callers.callers; file = p.planned.file } in
    let up = arrived_free header own c.hear.new.self (c.hear.ensures.held ∙ c.requires.free)
    ∙ ap (advance header) (heard_runner header own c.args.runner.now c.hear.new.self c.in_ok-reply.reply c.requires.header c.in_ok-hear.ensures.heard) in
    rw c.in_ok-add.ensures.steps
    (alone_planned script.hints s c.args.number c.len-call.result c.args.progress.now.steps c.args.progress.now.size c.add.new.self.size (asking own c.args.runner.now) c.args.offer.now step c.in_ok-reply.reply
    (arrived header own c.hear.new.self) c.args.lent.now.sound (ranked_puts header c.args.number c.args.offer.now.batch.puts (put_of _ _ c.requires.asked.sound)) (count_begins _ _ _ c.requires.known) refl
    (alone_device script.hints s c.args.number c.args.progress.now.size c.args.offer.now p.planned.file p.ensures.put_calls p.ensures.no_count p.ensures.get_calls)
    (record { overlap = p.ensures.overlap; asked_put = p.ensures.asked_put; asked_get = p.ensures.asked_get; put_windows = p.ensures.put_windows; get_windows = p.ensures.get_windows })
    c.in_ok-callers.ensures (c.in_ok-reply.ensures.pair ∙ p.ensures.overlap) (c.in_ok-reply.ensures.records ∙ ap (max c.args.offer.now.known) p.ensures.records) c.in_ok-reply.ensures.row
    (c.add.ensures.size ∙ p.ensures.size) up)
