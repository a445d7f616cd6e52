-- From one offer to the next, or to the end.
use Rattle.thread_run.proofs.Words.{ℕ, ◌<◌, ap, sym, refl, ◌∙◌, length, List, [], ◌∷◌, length-append, arith, append-nil, Answer, advance, asking, between, calls_of, going_of, Runner, fits_open, heard_runner, IsAccounted, nat_tests}
use Rattle.nc_base.specs.declared.run.RankStop.TheVariants as stop
use Rattle.nc_base.specs.declared.step.OwnerItem.TheVariants as owner_item
use Rattle.nc_base.specs.declared.step.RankItem.TheVariants as item
use Rattle.thread_run.proofs.AttendLaws.{accounted_first, accounted_free, accounted_on, broken_at, broken_first, stood_done, stood_misfit, stood_stopped, unheard_begins}
use Rattle.thread_run.proofs.AttendWay.{asked_own, at_offer, first_between, first_some, first_way, fits_long, later_some, one_each, placed_heard, placed_number, stood_each}
use Rattle.thread_run.proofs.rank_side.make_calls.Goals as goal

pub go_on-requires-clause-way : goal.go_on-requires-clause-way
go_on-requires-clause-way g c κs within = (
  [],
  first_way c.args.script.now c.args.header.now c.number-number.result c.own_calls-calls.result.now c.args.runner.now c.requires.lawful (omega (arith, c.requires.number, c.number-number.ensures))
      c.own_calls-calls.ensures c.requires.first,
)

pub returns-in_err-go_on-clause-stood : goal.returns-in_err-go_on-clause-stood
returns-in_err-go_on-clause-stood g c = (
  [],
  [],
  sym (append-nil _),
  sym (append-nil _),
  broken_first c.args.header.now (calls_of c.args.script.now c.args.out.now.number) c.go_on.new.self c.from_residual.result c.from_residual.ensures.0
      (first_some c.args.header.now c.own_calls-calls.result.now (calls_of c.args.script.now c.args.out.now.number) c.args.runner.now c.go_on.new.self.answers
      (c.own_calls-calls.ensures ∙ ap (calls_of c.args.script.now) c.number-number.ensures) c.requires.first c.in_err-go_on.ensures.some),
)

pub offers-init : goal.offers-init
offers-init g c =
    let own = c.own_calls-calls.result.now in
    let header = c.args.header.now in
    let below : c.number-number.result < c.args.script.now.ranks = omega (arith, c.requires.number, c.number-number.ensures) in
    let way = first_way c.args.script.now header c.number-number.result own c.args.runner.now c.requires.lawful below c.own_calls-calls.ensures c.requires.first in
    let went = ap (advance header) (sym (first_between header own c.args.runner.now c.requires.first)) ∙ c.in_ok-go_on.ensures.advanced in
    record {
      of_header = c.go_on.ensures.header;
      out = (refl, refl);
      back = refl;
      placed = ([], c.in_ok-go_on.ensures.placed [] way);
      asked = c.in_ok-go_on.ensures.asked;
      ended = c.in_ok-go_on.ensures.ended;
      accounted = ([], [], sym (append-nil _), sym (append-nil _), accounted_first header own _ went);
    }

pub offer-requires : goal.offer-requires
offer-requires g c = asked_own c.args.header.now c.offers.runner.rank.state.known c.offers.runner.held c.in-Some.offer (sym c.in-Some.ensures.value) c.offers.invariant.asked

pub returns-in-Stop-clause-stood : goal.returns-in-Stop-clause-stood
returns-in-Stop-clause-stood g c =
    let at = at_offer c.args.script.now c.args.header.now c.number-number.result c.own_calls-calls.result.now _ _ _ _ c.offers.runner c.in-Some.offer c.offers.invariant.of_header
    (sym c.in-Some.ensures.value) c.offers.invariant.placed c.offers.invariant.accounted in
    stood_each at owner_item.Stop (c.own_calls-calls.ensures ∙ ap (calls_of c.args.script.now) c.number-number.ensures) c.put.ensures.items c.offer.ensures c.len.ensures c.in-Stop.ensures.items
    (stood_stopped _ _ _ _ _ _ (record { rank = c.offers.runner.rank; answers = c.offers.runner.answers; held = c.take.new.self }) at.account refl refl)

pub fits-requires : goal.fits-requires
fits-requires g c =
    let at = at_offer c.args.script.now c.args.header.now c.number-number.result c.own_calls-calls.result.now _ _ _ _ c.offers.runner c.in-Some.offer c.offers.invariant.of_header
    (sym c.in-Some.ensures.value) c.offers.invariant.placed c.offers.invariant.accounted in
    record { waits = at.waits.0 }

pub returns-then-not-fits-clause-stood : goal.returns-then-not-fits-clause-stood
returns-then-not-fits-clause-stood g c =
    let at = at_offer c.args.script.now c.args.header.now c.number-number.result c.own_calls-calls.result.now _ _ _ _ c.offers.runner c.in-Some.offer c.offers.invariant.of_header
    (sym c.in-Some.ensures.value) c.offers.invariant.placed c.offers.invariant.accounted in
    stood_each at (owner_item.Reply c.in-Reply.reply) (c.own_calls-calls.ensures ∙ ap (calls_of c.args.script.now) c.number-number.ensures) c.put.ensures.items c.offer.ensures c.len.ensures
    c.in-Reply.ensures.items (stood_misfit _ _ _ _ _ _ c.in-Reply.reply (record { rank = c.offers.runner.rank; answers = c.offers.runner.answers; held = c.take.new.self }) at.account (sym (at.fits c.in-Reply.reply c.fits.result c.fits.ensures) ∙ c.if-not-fits.true) refl refl)

pub hear-requires : goal.hear-requires
hear-requires g c =
    let at = at_offer c.args.script.now c.args.header.now c.number-number.result c.own_calls-calls.result.now _ _ _ _ c.offers.runner c.in-Some.offer c.offers.invariant.of_header
    (sym c.in-Some.ensures.value) c.offers.invariant.placed c.offers.invariant.accounted in
    record {
      waits = at.waits.0;
      fits = fits_open c.offers.runner.rank.state.«open» c.args.header.now c.offers.runner.rank.header c.in-Some.offer.batch.gets c.in-Reply.reply.got c.offers.invariant.of_header at.waits.1
          (fits_long c.args.header.now c.in-Some.offer c.in-Reply.reply (sym (at.fits c.in-Reply.reply c.fits.result c.fits.ensures) ∙ c.if-not-fits.false));
    }

pub returns-in_err-hear-clause-stood : goal.returns-in_err-hear-clause-stood
returns-in_err-hear-clause-stood g c =
    let at = at_offer c.args.script.now c.args.header.now c.number-number.result c.own_calls-calls.result.now _ _ _ _ c.offers.runner c.in-Some.offer c.offers.invariant.of_header
    (sym c.in-Some.ensures.value) c.offers.invariant.placed c.offers.invariant.accounted in
    stood_each at (owner_item.Reply c.in-Reply.reply) (c.own_calls-calls.ensures ∙ ap (calls_of c.args.script.now) c.number-number.ensures) c.put.ensures.items c.offer.ensures c.len.ensures
    c.in-Reply.ensures.items
    (broken_at _ _ _ _ _ _ c.in-Reply.reply c.hear.new.self c.from_residual-in_err-hear.result at.account (sym (at.fits c.in-Reply.reply c.fits.result c.fits.ensures) ∙ c.if-not-fits.false) c.from_residual-in_err-hear.ensures.0
    (unheard_begins c.args.header.now (asking c.own_calls-calls.result.now c.offers.runner) c.in-Reply.reply c.hear.new.self.answers c.in_err-hear.ensures.kept))

pub go_on-requires-in-Some-clause-way : goal.go_on-requires-in-Some-clause-way
go_on-requires-in-Some-clause-way g c κs within =
    let at = at_offer c.args.script.now c.args.header.now c.number-number.result c.own_calls-calls.result.now _ _ _ _ c.offers.runner c.in-Some.offer c.offers.invariant.of_header
    (sym c.in-Some.ensures.value) c.offers.invariant.placed c.offers.invariant.accounted in
    placed_heard c.args.script.now c.args.header.now at.order c.number-number.result c.own_calls-calls.result.now (record { rank = c.offers.runner.rank; answers = c.offers.runner.answers; held = c.take.new.self })
    c.hear.new.self c.in-Some.offer c.in-Reply.reply c.offers.invariant.of_header at.placed c.in_ok-hear.ensures.heard

pub offers-smaller : goal.offers-smaller
offers-smaller g c =
    let at = at_offer c.args.script.now c.args.header.now c.number-number.result c.own_calls-calls.result.now _ _ _ _ c.offers.runner c.in-Some.offer c.offers.invariant.of_header
    (sym c.in-Some.ensures.value) c.offers.invariant.placed c.offers.invariant.accounted in
    let few = placed_number c.args.script.now c.args.header.now at.order c.number-number.result (asking c.own_calls-calls.result.now c.offers.runner) c.in-Some.offer at.placed in
    let heard = c.in_ok-hear.ensures.heard in
    let one = ap (λ (xs : List Answer). length xs) heard.answers ∙ length-append c.offers.runner.answers (heard.answer ∷ []) in
    grind (arith, nat_tests, c.in_ok-go_on-2.ensures.more)

pub offers-preserved : goal.offers-preserved
offers-preserved g c =
    let at = at_offer c.args.script.now c.args.header.now c.number-number.result c.own_calls-calls.result.now _ _ _ _ c.offers.runner c.in-Some.offer c.offers.invariant.of_header
    (sym c.in-Some.ensures.value) c.offers.invariant.placed c.offers.invariant.accounted in
    let own = c.own_calls-calls.result.now in
    let header = c.args.header.now in
    let before : Runner = record { rank = c.offers.runner.rank; answers = c.offers.runner.answers; held = c.take.new.self } in
    let new = c.go_on-in-Some.new.self in
    let heard = c.in_ok-hear.ensures.heard in
    let way = placed_heard c.args.script.now header at.order c.number-number.result own before c.hear.new.self c.in-Some.offer c.in-Reply.reply c.offers.invariant.of_header at.placed heard in
    let went = ap (advance header) (sym (heard_runner header own before c.hear.new.self c.in-Reply.reply c.offers.invariant.of_header heard)) ∙ c.in_ok-go_on-2.ensures.advanced in
    record {
      of_header = c.go_on-in-Some.ensures.header;
      out = (c.put.ensures.of ∙ c.offers.invariant.out.0, c.put.ensures.number ∙ c.offers.invariant.out.1);
      back = c.in-Reply.ensures.of ∙ c.offers.invariant.back;
      placed = (way.0, c.in_ok-go_on-2.ensures.placed way.0 way.1);
      asked = c.in_ok-go_on-2.ensures.asked;
      ended = c.in_ok-go_on-2.ensures.ended;
      accounted = one_each _ _ at.put at.taken _ (λ p t. IsAccounted header own p t (going_of own new, new.held)) at.sent at.came c.put.ensures.items
          (c.offer.ensures ∙ ap (λ (n : ℕ). item.Offer n c.in-Some.offer) c.len.ensures) c.in-Reply.ensures.items
          (accounted_on header own at.put at.taken (asking own c.offers.runner) c.in-Some.offer c.in-Reply.reply (going_of own new, new.held) at.account (sym (at.fits c.in-Reply.reply c.fits.result c.fits.ensures) ∙ c.if-not-fits.false) went);
    }

pub returns-in_err-go_on-2-clause-stood : goal.returns-in_err-go_on-2-clause-stood
returns-in_err-go_on-2-clause-stood g c =
    let at = at_offer c.args.script.now c.args.header.now c.number-number.result c.own_calls-calls.result.now _ _ _ _ c.offers.runner c.in-Some.offer c.offers.invariant.of_header
    (sym c.in-Some.ensures.value) c.offers.invariant.placed c.offers.invariant.accounted in
    stood_each at (owner_item.Reply c.in-Reply.reply) (c.own_calls-calls.ensures ∙ ap (calls_of c.args.script.now) c.number-number.ensures) c.put.ensures.items c.offer.ensures c.len.ensures
    c.in-Reply.ensures.items
    (broken_at _ _ _ _ _ _ c.in-Reply.reply c.go_on-in-Some.new.self c.from_residual-in_err-go_on-2.result at.account (sym (at.fits c.in-Reply.reply c.fits.result c.fits.ensures) ∙ c.if-not-fits.false)
    c.from_residual-in_err-go_on-2.ensures.0
    (later_some c.args.header.now c.own_calls-calls.result.now (record { rank = c.offers.runner.rank; answers = c.offers.runner.answers; held = c.take.new.self }) c.hear.new.self c.in-Reply.reply
    c.go_on-in-Some.new.self.answers c.offers.invariant.of_header c.in_ok-hear.ensures.heard c.in_err-go_on-2.ensures.some))

pub returns-clause-stood : goal.returns-clause-stood
returns-clause-stood g c =
    let own = c.own_calls-calls.result.now in
    let header = c.args.header.now in
    let runner = c.offers.runner in
    let account = c.offers.invariant.accounted in
    let here = accounted_free header own account.0 account.1 runner (sym c.in_default.ensures.value) account.4 in
    let all = c.own_calls-calls.ensures ∙ ap (calls_of c.args.script.now) c.number-number.ensures in
    let left : Runner = record { rank = runner.rank; answers = runner.answers; held = c.take.new.self } in grind (arith, nat_tests, stood_done header own account.0 account.1 (between own runner) left here)
