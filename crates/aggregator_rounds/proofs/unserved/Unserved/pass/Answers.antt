-- Those passed end at the place or are carried.
use Rattle.aggregator_rounds.proofs.Words.{◌⊎◌, ◌++◌, ◌<◌, List, sym, subst, Owned, In, entries_left, IsPast, in_extents}
use Rattle.aggregator_rounds.proofs.PastSteps.{ahead_in, past_filter, passed_past, passed_carried, kept_carried, first_further, first_ahead, none_ahead}
use Rattle.aggregator_rounds.proofs.SplitSteps.{extents_left}
use Rattle.aggregator_rounds.proofs.unserved.Unserved.pass.Goals as goal

pub leave_out-requires : goal.leave_out-requires
leave_out-requires c = record { ends = λ e m. c.requires.ends e (extents_left c.args.self.now.carried.items c.args.self.now.ahead.now e m) }

pub ahead-init : goal.ahead-init
ahead-init c = record {
  past = subst (λ (l : List Owned). IsPast c.args.stop (entries_left c.args.self.now) (l ++ c.args.self.now.ahead.now)) (sym c.leave_out.ensures)
      (past_filter c.args.stop c.args.self.now.carried.items c.args.self.now.ahead.now);
  carried = kept_carried c.args.stop c.args.self.now.carried.items c.leave_out.new.carried.items c.leave_out.ensures;
}

pub is_passed-requires-clause-end : goal.is_passed-requires-clause-end
is_passed-requires-clause-end c =
    c.requires.ends c.in-Some.entry.now.extent
    (in_extents (entries_left c.args.self.now) c.in-Some.entry.now
    (ahead_in c.args.stop (entries_left c.args.self.now) c.ahead.self.carried.items c.ahead.self.ahead.now c.in-Some.rest.now c.in-Some.entry.now c.in-Some.ensures.cases.0
    c.ahead.invariant.past))

pub is_passed-requires-clause-filled : goal.is_passed-requires-clause-filled
is_passed-requires-clause-filled c =
    c.requires.filled c.in-Some.entry.now
    (ahead_in c.args.stop (entries_left c.args.self.now) c.ahead.self.carried.items c.ahead.self.ahead.now c.in-Some.rest.now c.in-Some.entry.now c.in-Some.ensures.cases.0
    c.ahead.invariant.past)

pub ahead-preserved : goal.ahead-preserved
ahead-preserved c =
    let passed = c.is_passed.ensures.passed c.if-not-is_passed.false in
    record {
      past = passed_past c.args.stop (entries_left c.args.self.now) c.ahead.self.carried.items c.is_passed.new.carried.items c.ahead.self.ahead.now c.in-Some.rest.now
          c.in-Some.entry.now c.in-Some.ensures.cases.0 passed c.ahead.invariant.past;
      carried = passed_carried c.args.stop c.args.self.now.carried.items c.ahead.self.carried.items c.is_passed.new.carried.items c.in-Some.entry.now passed c.ahead.invariant.carried;
    }

pub returns-then-not-is_passed-clause-past : goal.returns-then-not-is_passed-clause-past
returns-then-not-is_passed-clause-past c =
    subst (λ (l : List Owned). IsPast c.args.stop (entries_left c.args.self.now) (l ++ c.ahead.self.ahead.now)) (sym (c.is_passed.ensures.not c.if-not-is_passed.true).0) c.ahead.invariant.past

pub returns-then-not-is_passed-clause-carried : goal.returns-then-not-is_passed-clause-carried
returns-then-not-is_passed-clause-carried c = λ o m.
    c.ahead.invariant.carried o (subst (λ (l : List Owned). In l o) (c.is_passed.ensures.not c.if-not-is_passed.true).0 m)

pub returns-then-not-is_passed-clause-first : goal.returns-then-not-is_passed-clause-first
returns-then-not-is_passed-clause-first c =
    first_further c.args.stop c.is_passed.new.carried.items c.ahead.self.ahead.now (λ o. In c.args.self.now.carried.items o ⊎ (o.extent.at < c.args.stop))
    (returns-then-not-is_passed-clause-carried c)
    (first_ahead c.args.stop c.ahead.self.ahead.now c.in-Some.rest.now c.in-Some.entry.now c.in-Some.ensures.cases.0 (c.is_passed.ensures.not c.if-not-is_passed.true).1)

pub returns-in_default-clause-past : goal.returns-in_default-clause-past
returns-in_default-clause-past c = c.ahead.invariant.past

pub returns-in_default-clause-carried : goal.returns-in_default-clause-carried
returns-in_default-clause-carried c = c.ahead.invariant.carried

pub returns-in_default-clause-first : goal.returns-in_default-clause-first
returns-in_default-clause-first c =
    first_further c.args.stop c.ahead.self.carried.items c.ahead.self.ahead.now (λ o. In c.args.self.now.carried.items o ⊎ (o.extent.at < c.args.stop))
    c.ahead.invariant.carried (none_ahead c.args.stop c.ahead.self.ahead.now c.in_default.ensures.cases)
