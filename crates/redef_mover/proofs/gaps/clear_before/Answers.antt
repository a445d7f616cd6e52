-- The first of the slabs that are left ends where the next gap begins.
use Rattle.redef_mover.proofs.Words.{◌∙◌, ◌-◌, ◌≤◌, sym, ap, length, [], ◌∷◌, arith, Shift, behind, gaps_before, nat_tests}
use Rattle.redef_mover.proofs.ClearLaws.{first_left, none_after, none_behind, slabs_left}
use Rattle.redef_mover.proofs.LeftLaws.{alone, none_done, one_gap, part_done, part_kept, whole_calls}
use Rattle.redef_mover.proofs.gaps.clear_before.Goals as goal

abbrev none : Shift
none = record { from = 0; to = 0; len = 0 }

pub overflow_add-place : goal.overflow_add-place
overflow_add-place g c =
    omega (arith, (first_left _ _ _ _ _ _ c.args.slabs.now c.loop-slab.slab-index none c.loop-slab-test.true c.loop-slab.invariant.clearable).inside)

pub overflow_sub-place : goal.overflow_sub-place
overflow_sub-place g c = (first_left _ _ _ _ _ _ c.args.slabs.now c.loop-slab.slab-index none c.loop-slab-test.true c.loop-slab.invariant.clearable).low

pub clear-requires-clause-inside : goal.clear-requires-clause-inside
clear-requires-clause-inside g c κs within =
    let first = first_left _ _ _ _ _ _ c.args.slabs.now c.loop-slab.slab-index none c.loop-slab-test.true c.loop-slab.invariant.clearable in
    omega (arith, first.low, first.inside, c.loop-slab.invariant.len)

pub clear-requires-clause-room : goal.clear-requires-clause-room
clear-requires-clause-room g c κs within = (first_left _ _ _ _ _ _ _ _ _ c.loop-slab-test.true c.loop-slab.invariant.clearable).fits

pub overflow_add-at : goal.overflow_add-at
overflow_add-at g c =
    omega (arith, (first_left _ _ _ _ _ _ c.args.slabs.now c.loop-slab.slab-index none c.loop-slab-test.true c.loop-slab.invariant.clearable).inside)

pub loop-slab-init : goal.loop-slab-init
loop-slab-init g c = grind (arith, nat_tests, none_done, c.requires.from, c.requires.clearable)

pub loop-slab-preserved : goal.loop-slab-preserved
loop-slab-preserved g c =
    let split = slabs_left c.args.offset.old c.args.offset.new c.args.slabs.now c.loop-slab.slab-index none c.loop-slab-test.true in
    let first = first_left _ _ _ _ _ _ c.args.slabs.now c.loop-slab.slab-index none c.loop-slab-test.true c.loop-slab.invariant.clearable in
    let later = c.in_ok-clear.ensures.cause.later in
    let before = c.loop-slab.invariant.faults in
    record {
      from = c.in_ok-clear.ensures.from;
      len = c.in_ok-clear.ensures.len ∙ c.loop-slab.invariant.len;
      clearable = first.rest;
      place = ap (λ xs. behind c.loop-slab.at xs) (sym split) ∙ c.loop-slab.invariant.place;
      left = part_done _ (_ ∷ []) _ _ _ (ap (λ xs. gaps_before c.loop-slab.at xs) split) (λ x h. alone _ _ x h)
          c.loop-slab.invariant.left c.in_ok-clear.ensures.bytes (one_gap _ _ _ _ _ c.in_ok-clear.ensures.calls) c.in_ok-clear.ensures.kept;
      faults = omega arith;
    }

pub returns-clause-place : goal.returns-clause-place
returns-clause-place g c = grind (arith, nat_tests, none_behind, none_after, c.loop-slab.invariant.place)

pub returns-clause-bytes : goal.returns-clause-bytes
returns-clause-bytes g c = grind (arith, nat_tests, none_after, c.loop-slab.invariant.left)

pub returns-clause-calls : goal.returns-clause-calls
returns-clause-calls g c =
    let all : length c.args.slabs.now ≤ c.loop-slab.slab-index = omega arith in
    whole_calls (ap (λ xs. gaps_before c.loop-slab.at xs) (none_after _ _ _ _ all)) c.loop-slab.invariant.left

pub returns-clause-kept : goal.returns-clause-kept
returns-clause-kept g c = c.loop-slab.invariant.left.kept

pub returns-in_err-clear-clause-kept : goal.returns-in_err-clear-clause-kept
returns-in_err-clear-clause-kept g c =
    let split = slabs_left c.args.offset.old c.args.offset.new c.args.slabs.now c.loop-slab.slab-index none c.loop-slab-test.true in
    part_kept _ (_ ∷ []) _ _ (ap (λ xs. gaps_before c.loop-slab.at xs) split) (λ x h. alone _ _ x h) c.loop-slab.invariant.left c.in_err-clear.ensures.kept
