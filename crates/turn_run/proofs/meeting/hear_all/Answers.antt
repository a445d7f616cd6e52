-- One more rank has heard.
use Rattle.turn_run.proofs.Words.{◌≡◌, ℕ, sym, ◌∙◌, subst, map, length, List, Some, get_or, arith, slice_get, IfSome, slice_get_within, slice_get-get_or, wanted, reply_of, IsAnswered, on_err, left_more, each_more, length-set, nat_tests}
use Rattle.turn_run.proofs.SaidMeet.{heard_part}
use Rattle.turn_run.proofs.meeting.hear_all.Goals as goal

pub hear-requires-clause-waits : goal.hear-requires-clause-waits
hear-requires-clause-waits c =
    let i = c.loop-number.number in let test = c.loop-number-test.true in
    let long = c.loop-number.auto.runners in let rows = c.loop-number.invariant.long in
    let all = c.requires.long in
    let own = slice_get-get_or c.loop-number.runners i c.index-runners-number.result (omega arith) in
    let row = slice_get-get_or c.loop-number.table.items i c.index_mut.result.now (omega arith) in
    (c.requires.fit i _ _ (sym (c.loop-number.invariant.left i (omega arith)) ∙ own) (sym (c.loop-number.invariant.blobs i (omega arith)) ∙ row)).waits

pub hear-requires-clause-fits : goal.hear-requires-clause-fits
hear-requires-clause-fits c =
    let i = c.loop-number.number in let test = c.loop-number-test.true in
    let long = c.loop-number.auto.runners in let rows = c.loop-number.invariant.long in
    let all = c.requires.long in let runner = get_or c.loop-number.runners i c.index-runners-number.result in
    let own = slice_get-get_or c.loop-number.runners i c.index-runners-number.result (omega arith) in
    let row = slice_get-get_or c.loop-number.table.items i c.index_mut.result.now (omega arith) in
    subst (λ (blobs : List (List ℕ)). IfSome runner.rank.state.«open» (λ o. map (λ blob. length blob) blobs ≡ map (wanted runner.rank.header) o.gets))
    (sym (c.take-got.ensures.taken ∙ c.index_mut.ensures.value))
    (c.requires.fit i _ _ (sym (c.loop-number.invariant.left i (omega arith)) ∙ own) (sym (c.loop-number.invariant.blobs i (omega arith)) ∙ row)).fits

pub loop-number-preserved : goal.loop-number-preserved
loop-number-preserved c =
    let i = c.loop-number.number in let test = c.loop-number-test.true in
    let long = c.loop-number.auto.runners in let rows = c.loop-number.invariant.long in
    let all = c.requires.long in
    let own = slice_get-get_or c.loop-number.runners i c.index-runners-number.result (omega arith) in
    let row = slice_get-get_or c.loop-number.table.items i c.index_mut.result.now (omega arith) in
    let first = sym (c.loop-number.invariant.left i (omega arith)) ∙ own in
    let its = sym (c.loop-number.invariant.blobs i (omega arith)) ∙ row in
    record {
      long = length-set c.loop-number.table.items i c.take-got.new.self ∙ c.loop-number.invariant.long;
      blobs = left_more _ _ _ c.take-got.new.self c.loop-number.invariant.blobs;
      heard = λ r a b blobs l g h t. each_more (λ q x y. (bs : List (List ℕ)) → slice_get c.args.table q ≡ Some bs → IsAnswered (reply_of c.args.pair c.args.records bs) x y)
          _ _ _ _ _ first own (λ bs e. record {
            heard = grind (arith, nat_tests, c.take-got.ensures.taken, c.index_mut.ensures.value, c.in_ok-hear.ensures.heard);
            same_header = c.in_ok-hear.ensures.header;
            held = c.in_ok-hear.ensures.held;
          })
          (λ q x y k u v bs w. c.loop-number.invariant.heard q x y bs k u v w) _ _ _ l g h blobs t;
      left = left_more _ _ _ c.hear.new.self c.loop-number.invariant.left;
    }

pub returns-clause-all : goal.returns-clause-all
returns-clause-all c = record {
  long = c.loop-number.auto.runners;
  each = λ r a b blobs g h t.
      let l = slice_get_within c.loop-number.runners r b h in let long = c.loop-number.auto.runners in
      let past = c.loop-number-test.false in
      c.loop-number.invariant.heard r a b blobs (omega arith) g h t;
}

pub returns-in_err-hear-clause-part : goal.returns-in_err-hear-clause-part
returns-in_err-hear-clause-part c =
    let test = c.loop-number-test.true in let long = c.loop-number.auto.runners in
    let rows = c.loop-number.invariant.long in let all = c.requires.long in
    let own = slice_get-get_or c.loop-number.runners c.loop-number.number c.index-runners-number.result (omega arith) in
    on_err _ (heard_part _ _ _ _ _ _ _ _ own
    (λ r a b blobs l g h t. (c.loop-number.invariant.heard r a b blobs l g h t).heard) c.loop-number.invariant.left c.in_err-hear.ensures.kept)
