-- One rank more has heard.
use Rattle.reference.proofs.Words.{◌≡◌, ◌∙◌, refl, sym, subst, length, get_or, Some, arith, each_more, left_more, same_Some, slice_get-get_or, slice_get_read, slice_get_within, slice_get, Heard, Reply, nat_tests}
use Rattle.reference.proofs.StepLaws.{heard_by, hears_fit, holds_one, may_hear}
use Rattle.reference.proofs.stand.hear_all.Goals as goal

pub hear-requires : goal.hear-requires
hear-requires c =
    let i = c.loop-number.number in
    let now = c.loop-number.runners in
    let long = c.loop-number.auto.runners in
    let all = c.requires.long in
    let test = c.loop-number-test.true in
    let runner = get_or now i c.index-runners-number.result in
    let there = sym (c.loop-number.invariant.left i (omega arith)) ∙ slice_get-get_or now i c.index-runners-number.result (omega arith) in
    let waits = c.requires.waiting i runner there in
    let holds = holds_one c.args.header.now runner waits in
    let said = slice_get_read c.args.replies.now (length c.args.replies.now) i c.index-replies-number.result refl (omega arith) c.index-replies-number.is in
    grind (arith, nat_tests, hears_fit, may_hear, c.requires.fit, c.in_ok-clone.ensures)

pub loop-number-preserved : goal.loop-number-preserved
loop-number-preserved c =
    let i = c.loop-number.number in
    let now = c.loop-number.runners in
    let long = c.loop-number.auto.runners in
    let all = c.requires.long in
    let test = c.loop-number-test.true in
    let runner = get_or now i c.index-runners-number.result in
    let own = slice_get-get_or now i c.index-runners-number.result (omega arith) in
    let there = sym (c.loop-number.invariant.left i (omega arith)) ∙ own in
    let said = slice_get_read c.args.replies.now (length c.args.replies.now) i c.index-replies-number.result refl (omega arith) c.index-replies-number.is in
    let heard = heard_by c.args.header.now runner c.hear.new.self c.in_ok-clone.field-0 (c.requires.waiting i runner there).of_header c.in_ok-hear.ensures.header c.in_ok-hear.ensures.gone in
    record {
      heard = each_more (λ r a b. (y : Reply) → slice_get c.args.replies.now r ≡ Some y → Heard c.args.header.now y a b) c.args.runners.now now i runner c.hear.new.self there own
          (λ y e. subst (λ (z : Reply). Heard c.args.header.now z runner c.hear.new.self) (c.in_ok-clone.ensures ∙ same_Some _ y (sym said ∙ e)) heard)
          c.loop-number.invariant.heard;
      left = left_more c.args.runners.now now i c.hear.new.self c.loop-number.invariant.left;
    }

pub returns : goal.returns
returns c = record {
  heard = record {
    long = c.loop-number.auto.runners;
    each = λ r a b y e f g.
        let l = slice_get_within c.loop-number.runners r b f in
        let past = c.loop-number-test.false in
        c.loop-number.invariant.heard r a b (omega arith) e f y g;
  };
}
