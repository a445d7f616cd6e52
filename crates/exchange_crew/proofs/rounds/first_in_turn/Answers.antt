-- The first one of the least round, step by step.
use Rattle.exchange_crew.proofs.Words.{◌≡◌, ◌∙◌, Some, length, slice_get, sym, arith, nat_tests, same_Some}
use Rattle.exchange_crew.proofs.LeastRounds.{least_none, least_now, least_still, within, least_first, least_nobody}
use Rattle.std.proofs.lemmas.Option.{IfSome_then, slice_get-get_or}
use Rattle.exchange_crew.proofs.rounds.first_in_turn.Goals as goal
use Rattle.exchange_crew.proofs.rounds.first_in_turn.Goals.{then-is_some, else-is_some}

pub loop-k-init : goal.loop-k-init
loop-k-init g c = least_none g.T.InRounds.next c.args.all.now

pub loop-k-preserved : goal.loop-k-preserved
loop-k-preserved g c =
    let next = g.T.InRounds.next in
    let all = c.args.all.now in
    let told = c.earlier-earlier.ensures in
    let at : slice_get all c.loop-k.k ≡ Some c.index-all-k.result =
    grind (arith, nat_tests, slice_get-get_or all c.loop-k.k c.index-all-k.result, c.index-all-k.is) in
    elim c.if-is_some.branch [
      | then-is_some w ↦ rw (w.first-is, w.least-is)
          (least_now next all _ _ _ _ c.loop-k.invariant at _ _ c.next_round.ensures (sym c.is_some.ensures ∙ w.if-is_some.true) told.some)
      | else-is_some w ↦ rw (w.first-is, w.least-is)
          (least_still next all _ _ _ _ c.loop-k.invariant at _ _ c.next_round.ensures (sym c.is_some.ensures ∙ w.if-is_some.false) told.none)
    ]

pub returns-clause-some : goal.returns-clause-some
returns-clause-some g c =
    let first = least_first g.T.InRounds.next c.args.all.now c.loop-k.k c.loop-k-test.false c.loop-k.first c.loop-k.least c.loop-k.invariant in
    IfSome_then c.loop-k.first first
    (λ k h. (within g.T.InRounds.next c.args.all.now k h.0.0 (length c.args.all.now) (omega arith) h.0.1, λ one there none. grind (arith, nat_tests, same_Some, h.0.1.1, h.0.1.2)))

pub returns-clause-least : goal.returns-clause-least
returns-clause-least g c =
    let first = least_first g.T.InRounds.next c.args.all.now c.loop-k.k c.loop-k-test.false c.loop-k.first c.loop-k.least c.loop-k.invariant in
    IfSome_then c.loop-k.first first (λ k h r j s x y. (h.1 r j s x y).0)

pub returns-clause-first : goal.returns-clause-first
returns-clause-first g c =
    let first = least_first g.T.InRounds.next c.args.all.now c.loop-k.k c.loop-k-test.false c.loop-k.first c.loop-k.least c.loop-k.invariant in
    IfSome_then c.loop-k.first first (λ k h r j s x y. (h.1 r j s x y).1)

pub returns-clause-none : goal.returns-clause-none
returns-clause-none g c = least_nobody g.T.InRounds.next c.args.all.now c.loop-k.k c.loop-k-test.false c.loop-k.first c.loop-k.least c.loop-k.invariant
