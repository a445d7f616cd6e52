-- A window is the first of those left.
use Rattle.file_domains.proofs.Words.{ℕ, ◌-◌, ◌^◌, sym, ◌∙◌, ap, min, arith, at_in, entry_in, IsWalk, windows_left, goes_on}
use Rattle.file_domains.proofs.CoverParts.{get_is, long_enough}
use Rattle.file_domains.proofs.WalkSteps.{next_window_at, empty_left, none_left_at, first_ends, stops_past}
use Rattle.file_domains.proofs.walk.WindowWalkIterator.next.Goals as goal

pub returns-then-at-self-clause-steps : goal.returns-then-at-self-clause-steps
returns-then-at-self-clause-steps c =
    let none = none_left_at c.args.self.now.first c.args.self.now.size c.args.self.now.from c.args.self.now.end c.in-Some.extent c.args.self.now.cover.now
    c.requires.cover c.requires.left (sym c.in-Some.ensures) (omega arith) in
    (none, none)

pub end_of-requires : goal.end_of-requires
end_of-requires c =
    let some = get_is c.args.self.now.cover.now 0 c.in-Some.extent (sym c.in-Some.ensures) in
    let long = some.0 in
    let bound = c.begins_before-count.ensures.bound in
    let low = c.requires.ends _ (entry_in c.args.self.now.cover.now (c.begins_before-count.result - 1) (record { at = 0; len = 0 }) (omega arith)) in
    omega arith

pub overflow_sub-window-2 : goal.overflow_sub-window-2
overflow_sub-window-2 c =
    let some = get_is c.args.self.now.cover.now 0 c.in-Some.extent (sym c.in-Some.ensures) in
    let long = some.0 in
    let bound = c.begins_before-count.ensures.bound in
    let inside = at_in c.args.self.now.cover.now 0 c.in-Some.extent (sym c.in-Some.ensures) in
    let left = c.requires.left c.in-Some.extent inside in
    let len = long_enough c.args.self.now.cover.now c.in-Some.extent c.requires.cover inside in
    let ends = first_ends c.args.self.now.cover.now (c.begins_before-count.result - 1) c.in-Some.extent (record { at = 0; len = 0 }) c.requires.cover (sym c.in-Some.ensures) (omega arith) in
    let stop = stops_past c.args.self.now.first c.args.self.now.size c.max-at.result c.args.self.now.end (2 ^ 64 - 1) c.requires.size (omega arith) (omega arith) in
    let least = c.end_of_round.ensures in
    omega arith

pub returns-clause-steps : goal.returns-clause-steps
returns-clause-steps c =
    next_window_at c.args.self.now.first c.args.self.now.size c.args.self.now.from c.args.self.now.end c.end_of_round.result c.min-stop.result (2 ^ 64 - 1) c.begins_before-count.result c.min-end.result
    c.max-at.result c.in-Some.extent (record { at = 0; len = 0 }) c.args.self.now.cover.now c.past-self.result.now c.max-at.ensures c.requires.size c.requires.first c.requires.cover c.requires.left
    (sym c.in-Some.ensures) c.if-at-self.false (omega arith) c.end_of_round.ensures c.min-stop.ensures
    c.begins_before-count.ensures.bound c.begins_before-count.ensures.before c.begins_before-count.ensures.after
    (c.min-end.ensures ∙ ap (λ (n : ℕ). min n c.min-stop.result) c.end_of.ensures) c.past-self.ensures.bytes

pub returns-clause-goes : goal.returns-clause-goes
returns-clause-goes c = goes_on windows_left IsWalk _ _ _ (returns-clause-steps c)
    (record {
      cover = c.past-self.ensures.cover;
      ends = c.past-self.ensures.ends;
      left = c.past-self.ensures.past;
      first = (let stop = stops_past c.args.self.now.first c.args.self.now.size c.max-at.result c.args.self.now.end (2 ^ 64 - 1) c.requires.size (omega arith) (omega arith) in
          let least = c.end_of_round.ensures in omega arith);
      size = c.requires.size;
    })

pub returns-in-None-clause-steps : goal.returns-in-None-clause-steps
returns-in-None-clause-steps c =
    let none = empty_left c.args.self.now.first c.args.self.now.size c.args.self.now.from c.args.self.now.end c.args.self.now.cover.now c.in-None.ensures in
    (none, none)
