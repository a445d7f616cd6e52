-- One thread more was told.
use Rattle.thread_run.proofs.Words.{refl, sym, ◌∙◌, get_or, arith, IsToldToGo, slice_get_within, slice_get-get_or, left_more, each_more, length-set}
use Rattle.thread_run.proofs.rank_threads.tell_all.Goals as goal

pub loop-one-preserved : goal.loop-one-preserved
loop-one-preserved g c =
    let old = c.args.ones.now in
    let now = c.loop-one.ones in
    let i = c.loop-one.one-index in
    let test = c.loop-one-test.true in
    let long = c.loop-one.auto.ones in
    let one = get_or now i c.one-item.result in
    let own = slice_get-get_or now i c.one-item.result (omega arith) in
    let first = sym (c.loop-one.invariant.left i (omega arith)) ∙ own in
    record {
      long = length-set now i _ ∙ c.loop-one.invariant.long;
      told = λ r a b l e f.
          each_more (λ q x y. IsToldToGo x y) old now i one _ first own (record { child = refl; of = c.put.ensures.of; words = c.put.ensures.items })
          (λ q x y k u v. c.loop-one.invariant.told q x y k u v) r a b l e f;
      left = left_more old now i _ c.loop-one.invariant.left;
    }

pub returns-clause-told : goal.returns-clause-told
returns-clause-told g c = λ r a b e f.
    let l = slice_get_within c.loop-one.ones r b f in
    let long = c.loop-one.auto.ones in
    let past = c.loop-one-test.false in
    c.loop-one.invariant.told r a b (omega arith) e f
