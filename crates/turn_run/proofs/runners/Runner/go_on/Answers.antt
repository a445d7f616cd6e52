-- One call more, or an offer.
use Rattle.turn_run.proofs.Words.{◌≡◌, refl, ◌∙◌, ap, length, List, Some, [], ◌∷◌, length-append, arith, Answer, slice_get, call_fresh, call_lawful, call_posts, alone_keeps, between, on_err, drop_at, said_at, nat_tests}
use Rattle.nc_base.specs.declared.step.Want.TheVariants as want
use Rattle.turn_run.proofs.RunnerLaws.{next_call, way_on, advance_on, answers_on_way, makes_offer}
use Rattle.turn_run.proofs.runners.Runner.go_on.Goals as goal

pub step-requires-clause-fresh : goal.step-requires-clause-fresh
step-requires-clause-fresh g c =
    let call = c.index-calls-next.result in let own = c.args.calls.now in
    grind (arith, nat_tests, next_call own c.calls.self.answers c.len-next.result call, call_fresh c.args.script.now c.calls.invariant.way.0 c.args.number (between own c.calls.self) call, drop_at own (length c.calls.self.answers) call, c.index-calls-next.is, c.calls.invariant.way.1)

pub calls-preserved : goal.calls-preserved
calls-preserved g c =
    let call = c.index-calls-next.result in let own = c.args.calls.now in
    let answers = c.calls.self.answers in let rank = c.calls.self.rank.state in
    let next = c.step.new.self.state in let header = c.args.header.now in
    let a = c.in-Answered.answer in
    let there : slice_get own (length answers) ≡ Some call = next_call own answers c.len-next.result call (omega arith) (omega arith) c.index-calls-next.is in
    let way = c.calls.invariant.way in
    let lawful = call_lawful c.args.script.now way.0 c.args.number (between own c.calls.self) call _ way.1 (drop_at own (length answers) call there) in
    let said = said_at header c.calls.self.rank.header rank next call c.in_ok-answer.field-0 (want.Answered a) c.calls.invariant.of_header c.in_ok-answer.ensures.step c.in-Answered.is in
    let posts = c.in_ok-answer.ensures.held c.args.script.now.ranks c.args.number lawful in
    let more = c.in_ok-push-in-Answered.ensures.ok in let known = (alone_keeps header rank next call a said).0 in
    record {
      of_header = c.in_ok-answer.ensures.header ∙ c.calls.invariant.of_header;
      free = c.calls.invariant.free;
      more = let long = ap (λ (xs : List Answer). length xs) more in let one = length-append answers (a ∷ []) in let before = c.calls.invariant.more in omega arith;
      known = known ∙ c.calls.invariant.known;
      way = (way.0, way_on c.args.script.now way.0 c.args.number header own rank next answers c.push.new.self a call way.1 there said posts more);
      kept = λ order w. way_on c.args.script.now order c.args.number header own rank next answers c.push.new.self a call (c.calls.invariant.kept order w) there said posts more;
      advanced = c.calls.invariant.advanced ∙ advance_on header own rank next answers c.push.new.self a call there said more;
    }

pub returns-in-Meet : goal.returns-in-Meet
returns-in-Meet g c =
    let call = c.index-calls-next.result in let own = c.args.calls.now in
    let answers = c.calls.self.answers in let rank = c.calls.self.rank.state in
    let script = c.args.script.now in let k = c.calls.invariant in
    let there : slice_get own (length answers) ≡ Some call = next_call own answers c.len-next.result call (omega arith) (omega arith) c.index-calls-next.is in
    let next_is = drop_at own (length answers) call there in
    let lawful = call_lawful script k.way.0 c.args.number (between own c.calls.self) call _ k.way.1 next_is in
    let made = makes_offer script c.args.header.now c.calls.self.rank.header c.args.number own rank c.step.new.self.state answers c.in-Meet.offer call c.in_ok-answer.field-0 k.of_header c.in_ok-answer.ensures.step there
    (c.in_ok-answer.ensures.held script.ranks c.args.number lawful) c.in_ok-answer.ensures.sound (c.in_ok-answer.ensures.few script.ranks c.args.number lawful)
    (call_posts script k.way.0 c.args.number (between own c.calls.self) call _ k.way.1 next_is) c.in-Meet.is in
    grind (arith, nat_tests, c.in_ok-answer.ensures.header)

pub returns-in_err-answer-clause-some : goal.returns-in_err-answer-clause-some
returns-in_err-answer-clause-some g c =
    on_err c.from_residual.result (answers_on_way c.args.header.now _ c.args.calls.now c.calls.self.rank.state c.calls.self.answers _ c.calls.invariant.advanced refl)

pub returns-in_err-push-in-Answered-clause-some : goal.returns-in_err-push-in-Answered-clause-some
returns-in_err-push-in-Answered-clause-some g c = on_err c.from_residual-in_err-push-in-Answered.result
    (answers_on_way c.args.header.now _ c.args.calls.now c.calls.self.rank.state c.calls.self.answers c.push.new.self c.calls.invariant.advanced c.in_err-push-in-Answered.ensures.err)
