-- The rank waits with an offer, and hears the reply to it.
use Rattle.reference.proofs.Words.{refl, entry_read, setting, arith, nat_tests}
use Rattle.reference.proofs.StepLaws.{alone_step, has_heard, heard_by, held_asked, holds_one, may_hear, own_fits, own_reply, runner_offer}
use Rattle.reference.proofs.stand.Stand.alone.Goals as goal

pub solo-requires-clause-right : goal.solo-requires-clause-right
solo-requires-clause-right c =
    let runner = c.index_mut-runner.result.now in
    grind (arith, nat_tests, entry_read c.args.self.now.runners.items c.args.rank runner c.requires.rank c.index_mut-runner.ensures.value, runner_offer c.args.header.now runner c.in-Some.offer, c.requires.waiting, c.in-Some.is)

pub hear-requires : goal.hear-requires
hear-requires c =
    let runner = c.index_mut-runner.result.now in
    let waiting = c.requires.waiting runner (entry_read c.args.self.now.runners.items c.args.rank runner c.requires.rank c.index_mut-runner.ensures.value) in
    record {
      waits = (held_asked c.args.header.now runner c.in-Some.offer waiting c.in-Some.is).waits;
      fits = own_fits (setting c.args.header.now c.args.overlap) c.args.rank c.in-Some.offer c.args.self.now.file.items runner c.in_ok-reply.reply waiting c.in-Some.is
          c.in_ok-reply.ensures.reply;
      ready = may_hear c.args.header.now runner c.in_ok-reply.reply waiting;
    }

pub returns-in_ok-hear : goal.returns-in_ok-hear
returns-in_ok-hear c =
    let s = setting c.args.header.now c.args.overlap in
    let runners = c.args.self.now.runners.items in
    let runner = c.index_mut-runner.result.now in
    let there = entry_read runners c.args.rank runner c.requires.rank c.index_mut-runner.ensures.value in
    let waits = c.requires.waiting runner there in
    let heard = heard_by c.args.header.now runner c.hear.new.self c.in_ok-reply.reply waits.of_header c.in_ok-hear.ensures.header c.in_ok-hear.ensures.gone in
    record {
      step = λ n. alone_step s runners runner c.hear.new.self c.in-Some.offer c.in_ok-reply.reply c.args.self.now.file.items c.solo.new.file.items c.args.self.now.records c.args.rank n
          there c.in-Some.is c.in_ok-reply.ensures.file c.in_ok-reply.ensures.reply heard;
      heard = grind (arith, nat_tests, has_heard c.args.header.now c.args.rank runners runner c.hear.new.self there, own_reply s c.args.rank c.in-Some.offer c.args.self.now.file.items runner c.hear.new.self c.in_ok-reply.reply, runner_offer c.args.header.now runner c.in-Some.offer waits c.in-Some.is, c.in_ok-reply.ensures.reply);
      records = refl;
    }

pub returns-in_default : goal.returns-in_default
returns-in_default c =
    let runner = c.index_mut-runner.result.now in
    grind (arith, nat_tests, entry_read c.args.self.now.runners.items c.args.rank runner c.requires.rank c.index_mut-runner.ensures.value, holds_one c.args.header.now runner, c.requires.waiting)
