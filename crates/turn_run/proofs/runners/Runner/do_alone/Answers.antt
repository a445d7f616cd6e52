-- The step is done, and the rank has heard its reply.
use Rattle.turn_run.proofs.Words.{◌≡◌, refl, sym, subst, List, Mark, setting_of, IsOnWay, asking, between, calls_of, arrived, MayFollow, length, [], ◌∷◌, ◌++◌, Solo, Reply, puts_of, told, done_torn, SaysAt, None, on_err, lawful_hints, equal_itself, one_of, arith, nat_tests, point, counted}
use Rattle.turn_run.proofs.StageLaws.{some_each}
use Rattle.turn_run.proofs.CountLaws.{count_longer, count_max}
use Rattle.turn_run.proofs.MeetOffers.{asked_fit}
use Rattle.turn_run.proofs.RunnerLaws.{alone_done, alone_heard, alone_rest, heard_runner, HasRest}
use Rattle.turn_run.proofs.AloneLaws.{alone_alike, alone_led, alone_waits, arrived_free, fits_open, grown_one, heard_known, order_is}
use Rattle.turn_run.proofs.CutLaws.{stopped_solo, memory_of, solo_at}
use Rattle.turn_run.proofs.SaidLaws.{reached_here, reached_unheard, said_here, says_here}
use Rattle.turn_run.proofs.TellLaws.{told_alone, told_none}
use Rattle.turn_run.proofs.runners.Runner.do_alone.Goals as goal

pub invariant_of-dataset : goal.invariant_of-dataset
invariant_of-dataset g c = let setup = c.args.lent.now.setup in record { sound = setup.sound; measured = setup.measured; lawful = lawful_hints setup.script.now setup.lawful }

pub solo_reply-requires-clause-fit : goal.solo_reply-requires-clause-fit
solo_reply-requires-clause-fit g c κs within = asked_fit c.args.lent.now.setup.header.now _ c.args.self.now.rank.state.known c.args.ask.offer c.requires.asked c.requires.known

pub returns-in_err-reply-clause-begun : goal.returns-in_err-reply-clause-begun
returns-in_err-reply-clause-begun g c = on_err _ (alone_rest _ _ _ _ _ _ c.requires.asks)

pub returns-in_err-note_step-clause-begun : goal.returns-in_err-note_step-clause-begun
returns-in_err-note_step-clause-begun g c =
    on_err _ (subst (λ (ms : List Mark). HasRest c.args.lent.now.setup.script.now ms c.args.ask.number) (sym c.in_err-note_step.ensures.kept) (alone_rest _ _ _ _ _ _ c.requires.asks))

pub hear-requires-clause-waits : goal.hear-requires-clause-waits
hear-requires-clause-waits g c = (alone_waits _ _ _ _ _ _ c.requires.asks).0

pub hear-requires-clause-fits : goal.hear-requires-clause-fits
hear-requires-clause-fits g c = fits_open _ c.args.lent.now.setup.header.now c.args.self.now.rank.header c.args.ask.offer.batch.gets c.in_ok-reply.reply.got c.requires.header
    (alone_waits _ _ _ _ _ _ c.requires.asks).1 c.in_ok-reply.ensures.fits

pub returns-in_err-hear-clause-grown : goal.returns-in_err-hear-clause-grown
returns-in_err-hear-clause-grown g c = grown_one _ _ _ _ c.in_ok-note_step.ensures.order

pub returns-in_err-hear-clause-begun : goal.returns-in_err-hear-clause-begun
returns-in_err-hear-clause-begun g c = on_err _ (subst (λ (ms : List Mark). HasRest c.args.lent.now.setup.script.now ms c.args.ask.number)
    (sym (order_is _ _ c.args.self.now.answers c.args.progress.now.order c.note_step.new.order c.in_ok-note_step.ensures.order c.len.ensures))
    (alone_done _ _ _ _ _ _ c.in_ok-reply.reply c.requires.asks))

pub returns-clause-way : goal.returns-clause-way
returns-clause-way g c =
    let own = calls_of c.args.lent.now.setup.script.now c.args.ask.number in
    subst (λ (ms : List Mark). IsOnWay c.args.lent.now.setup.script.now ms c.args.ask.number (between own c.hear.new.self) None)
    (sym (order_is _ _ c.args.self.now.answers c.args.progress.now.order c.note_step.new.order c.in_ok-note_step.ensures.order c.len.ensures))
    (alone_heard c.args.lent.now.setup.script.now c.args.lent.now.setup.header.now c.args.progress.now.order c.args.ask.number own c.args.self.now c.hear.new.self c.args.ask.offer c.in_ok-reply.reply c.requires.header c.requires.asks
    c.in_ok-hear.ensures.heard)

pub returns-clause-known : goal.returns-clause-known
returns-clause-known g c =
    let waits = (alone_waits _ _ _ _ _ _ c.requires.asks).0 in
    grind (arith, nat_tests, heard_known c.args.self.now c.hear.new.self c.in_ok-reply.reply waits c.in_ok-hear.ensures.heard, count_max c.args.lent.now.setup.header.now (g.D.Disk.len c.solo_reply.new.disk), count_longer c.args.lent.now.setup.header.now (g.D.Disk.len c.args.disk.now), c.in_ok-reply.ensures.longer, c.requires.known, c.in_ok-reply.ensures.count)

pub returns-clause-gone : goal.returns-clause-gone
returns-clause-gone g c =
    let own = calls_of c.args.lent.now.setup.script.now c.args.ask.number in
    let header = c.args.lent.now.setup.header.now in
    let up : arrived header own c.hear.new.self ≡ _ = grind (arith, nat_tests, arrived_free, heard_runner, c.in_ok-hear.ensures.heard) in
    record {
      more = Solo c.args.ask.number c.len.result ∷ [];
      grown = c.in_ok-note_step.ensures.order;
      own = one_of c.args.ask.number c.len.result;
      led = alone_led c.args.lent.now.setup.script.now.hints (setting_of c.args.lent.now.setup.script.now header) c.args.ask.number c.len.result (g.D.Disk.held c.args.disk.now) (g.D.Disk.held c.solo_reply.new.disk)
          (g.D.Disk.calls c.args.disk.now) (g.D.Disk.calls c.solo_reply.new.disk) (asking own c.args.self.now) c.args.ask.offer c.in_ok-reply.reply (arrived header own c.hear.new.self)
          c.in_ok-reply.ensures.reply c.in_ok-reply.ensures.bytes c.in_ok-reply.ensures.calls up;
      alike = alone_alike (setting_of c.args.lent.now.setup.script.now header) c.args.ask.number c.len.result (asking own c.args.self.now) c.args.ask.offer c.in_ok-reply.reply (arrived header own c.hear.new.self)
          c.in_ok-reply.ensures.told c.in_ok-reply.ensures.records c.in_ok-reply.ensures.fits up;
    }

pub returns-clause-grown : goal.returns-clause-grown
returns-clause-grown g c = grown_one _ _ _ _ c.in_ok-note_step.ensures.order

-- a reply to try an offer with
some_reply : Reply
some_reply = record { pair = None; records = 0; got = [] }

pub returns-in_err-reply-clause-cut : goal.returns-in_err-reply-clause-cut
returns-in_err-reply-clause-cut g c e is records ranks at =
    let script = c.args.lent.now.setup.script.now in let r = c.args.ask.number in
    stopped_solo (MayFollow script r c.args.progress.now.order) r (length c.args.self.now.answers) (asking (calls_of script r) c.args.self.now) c.args.ask.offer
    (equal_itself r, alone_done script c.args.lent.now.setup.header.now c.args.progress.now.order r _ c.args.ask.offer some_reply c.requires.asks) refl c.in_err-reply.ensures.refused records ranks at

pub returns-in_err-note_step-clause-cut : goal.returns-in_err-note_step-clause-cut
returns-in_err-note_step-clause-cut g c e is records ranks at =
    let script = c.args.lent.now.setup.script.now in let r = c.args.ask.number in
    let n = length c.args.self.now.answers in let puts = puts_of (r, c.args.ask.offer) in
    let s = setting_of script c.args.lent.now.setup.header.now in
    let rest = subst (λ (ms : List Mark). HasRest script (ms ++ Solo r n ∷ []) r) (sym c.in_err-note_step.ensures.kept)
    (alone_done script c.args.lent.now.setup.header.now c.args.progress.now.order r _ c.args.ask.offer some_reply c.requires.asks) in
    stopped_solo (MayFollow script r c.note_step.new.order) r n (asking (calls_of script r) c.args.self.now) c.args.ask.offer (equal_itself r, rest) c.in_err-note_step.ensures.kept
    (done_torn s puts (told s puts) (g.D.Disk.held c.args.disk.now) (g.D.Disk.held c.solo_reply.new.disk) c.in_ok-reply.ensures.bytes) records ranks at

pub returns-in_err-hear-clause-cut : goal.returns-in_err-hear-clause-cut
returns-in_err-hear-clause-cut g c e is records ranks at = grind (arith, nat_tests, memory_of, order_is, some_each, solo_at, point, counted, c.from_residual-in_err-hear.ensures.1, c.in_ok-note_step.ensures.order, c.len.ensures, c.in_ok-reply.ensures.bytes)

pub returns-in_err-reply-clause-answered : goal.returns-in_err-reply-clause-answered
returns-in_err-reply-clause-answered g c e is records ranks at = reached_here (SaysAt c.args.ask.number e c.args.self.now.answers) _ _ _ _ _ _ refl (λ n. says_here _ _ _ _ n ranks at (said_here e _ _ refl))

pub returns-in_err-note_step-clause-answered : goal.returns-in_err-note_step-clause-answered
returns-in_err-note_step-clause-answered g c e is records ranks at =
    reached_here (SaysAt c.args.ask.number e c.args.self.now.answers) _ _ _ _ _ _ c.in_err-note_step.ensures.kept (λ n. says_here _ _ _ _ n ranks at (said_here e _ _ refl))

pub returns-in_err-hear-clause-answered : goal.returns-in_err-hear-clause-answered
returns-in_err-hear-clause-answered g c e is records ranks at =
    let script = c.args.lent.now.setup.script.now in let own = calls_of script c.args.ask.number in
    reached_unheard (setting_of script c.args.lent.now.setup.header.now) e c.args.ask.number (length c.args.self.now.answers) c.args.progress.now.order c.note_step.new.order
    (g.D.Disk.held c.args.disk.now) (asking own c.args.self.now) c.args.ask.offer c.hear.new.self.answers (memory_of c.from_residual-in_err-hear.result e c.from_residual-in_err-hear.ensures.1 is)
    (order_is _ _ c.args.self.now.answers c.args.progress.now.order c.note_step.new.order c.in_ok-note_step.ensures.order c.len.ensures)
    c.in_err-hear.ensures.kept records ranks at

pub returns-in_err-reply-clause-told : goal.returns-in_err-reply-clause-told
returns-in_err-reply-clause-told g c ranks at = told_none _ _ _ _ _ _ _ _ refl refl

pub returns-in_err-note_step-clause-told : goal.returns-in_err-note_step-clause-told
returns-in_err-note_step-clause-told g c ranks at = told_none _ _ _ _ _ _ _ _ c.in_err-note_step.ensures.kept c.in_err-note_step.ensures.untold

pub returns-in_err-hear-clause-told : goal.returns-in_err-hear-clause-told
returns-in_err-hear-clause-told g c ranks at = told_alone _ _ _ _ _ _ _ _ _ _ _ c.in_ok-note_step.ensures.order c.in_ok-note_step.ensures.heard ranks at

pub returns-clause-told : goal.returns-clause-told
returns-clause-told g c ranks at = told_alone _ _ _ _ _ _ _ _ _ _ _ c.in_ok-note_step.ensures.order c.in_ok-note_step.ensures.heard ranks at
