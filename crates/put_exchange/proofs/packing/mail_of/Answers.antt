-- One window more.
use Rattle.put_exchange.proofs.Words.{length, min, refl, rules, arith, common_steps, told_window, planned_turns, source_in, nat_tests}
use Rattle.put_exchange.proofs.MailLaws.{packing_begin, packing_end, packing_next, packing_now, past_turn}
use Rattle.put_exchange.proofs.packing.mail_of.Goals as goal

pub turns-init : goal.turns-init
turns-init c = grind (arith, nat_tests, packing_begin, c.walk_of-walk.ensures.ready, c.walk_of-walk.ensures.at, c.walk_of-walk.ensures.windows, c.requires.past)

pub messages_of-requires : goal.messages_of-requires
messages_of-requires c =
    let plan = c.args.plan.now in
    let ready = packing_now (source_in plan) (length plan.job.now.batches) (min plan.hints.now.cb_buffer c.args.domain.len) plan.list.now c.in-Some.turn.entries.now (planned_turns plan c.args.domain)
    c.turns.walk c.next_turn.new.self (told_window c.in-Some.turn.window) c.turns.mail.rounds.items c.turns.mail.dues.items c.requires.plan.ends c.requires.plan.pieces c.requires.plan.below c.turns.invariant.packing
    c.in-Some.ensures.some c.in-Some.ensures.front in
    record { ends = ready.ends; hull = ready.hull; pieces = ready.pieces; below = ready.below; few = first_of (search rules, grind (arith, common_steps)) }

pub turns-preserved : goal.turns-preserved
turns-preserved c =
    let plan = c.args.plan.now in
    let begun = c.in-Some.turn.entries.now in
    record {
      packing = packing_next _ _ _ _ _ _ _ _ c.in-Some.turn.window _ _ _ _ _ _ c.turns.invariant.packing c.in-Some.ensures.some c.in-Some.ensures.ready c.in-Some.ensures.front
          c.in-Some.ensures.past c.in_ok-add.ensures.rounds c.in_ok-messages.ensures c.in_ok-add.ensures.dues refl refl;
      past = past_turn _ _ _ _ _ _ _ c.turns.invariant.packing.here c.in-Some.ensures.some c.in-Some.ensures.past;
    }

pub returns : goal.returns
returns c =
    let plan = c.args.plan.now in
    let got = packing_end _ _ _ _ _ _ _ _ c.turns.invariant.packing c.in_default.ensures.none in
    record { past = first_of (search rules, grind (arith, common_steps)); messages = got.messages; windows = got.windows; counts = got.many }
