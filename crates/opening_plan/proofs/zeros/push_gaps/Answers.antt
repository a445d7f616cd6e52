-- The first of the slabs that are left ends where the next gap begins.
use Rattle.opening_plan.proofs.Words.{◌∙◌, ◌+◌, ◌-◌, ◌<◌, ◌≤◌, ◌^◌, sym, refl, ap, length, List, ◌++◌, get_or, drop, ℕ, arith, Slab, Shift, behind, further, gap_calls, gaps_before, slab_of, AreSpaced, none_after, none_behind, slabs_left, spaced_low, nat_tests}
use Rattle.opening_plan.proofs.CallLaws.{none_left, one_zeros_left, slabs_further, spaced_first}
use Rattle.opening_plan.proofs.zeros.push_gaps.Goals as goal

abbrev none : Shift
none = record { from = 0; to = 0; len = 0 }

-- the slab of the code, and those behind it
abbrev slab_at : ℕ → ℕ → List Shift → ℕ → Slab
slab_at a b ss k = further a b (slab_of (get_or ss k none))

-- it starts at the next gap's end, and ends below the bound
record IsNext (at a b : ℕ) (ss : List Shift) (k : ℕ) : Type 0 where
  low : at ≤ (slab_at a b ss k).to
  high : (slab_at a b ss k).to + (slab_at a b ss k).len ≤ 2 ^ 62
  spaced : AreSpaced ((slab_at a b ss k).to + (slab_at a b ss k).len) (2 ^ 62) (slabs_further a b (drop (k + 1) ss))

next : (at a b : ℕ) (ss : List Shift) (k : ℕ) → k < length ss → AreSpaced at (2 ^ 62) (slabs_further a b (drop k ss)) → IsNext at a b ss k
next at a b ss k more spaced = grind (arith, nat_tests, spaced_first, slabs_left, spaced_low)

pub overflow_add-place : goal.overflow_add-place
overflow_add-place c = grind (arith, nat_tests, next, c.loop-slab-test.true, c.loop-slab.invariant.spaced)

pub overflow_sub-place : goal.overflow_sub-place
overflow_sub-place c = (next c.loop-slab.at c.args.offset.old c.args.offset.new c.args.slabs.now c.loop-slab.slab-index c.loop-slab-test.true c.loop-slab.invariant.spaced).low

pub push_stores-requires-clause-low : goal.push_stores-requires-clause-low
push_stores-requires-clause-low c = grind (arith, nat_tests, next, c.loop-slab-test.true, c.loop-slab.invariant.spaced)

pub overflow_add-at : goal.overflow_add-at
overflow_add-at c = grind (arith, nat_tests, next, c.loop-slab-test.true, c.loop-slab.invariant.spaced)

pub loop-slab-init : goal.loop-slab-init
loop-slab-init c = record { spaced = c.requires.spaced; place = refl; calls = refl }

pub loop-slab-preserved : goal.loop-slab-preserved
loop-slab-preserved c =
    let a = c.args.offset.old in
    let b = c.args.offset.new in
    let ss = c.args.slabs.now in
    let i = c.loop-slab.slab-index in
    let at = c.loop-slab.at in
    let s : Slab = slab_at a b ss i in
    let others : List Slab = slabs_further a b (drop (i + 1) ss) in
    let split = slabs_left a b ss i none c.loop-slab-test.true in
    record {
      spaced = (next at a b ss i c.loop-slab-test.true c.loop-slab.invariant.spaced).spaced;
      place = ap (λ xs. behind at xs) (sym split) ∙ c.loop-slab.invariant.place;
      calls = one_zeros_left (c.args.calls.now.items ++ gap_calls c.args.window (gaps_before c.args.at (slabs_further a b ss)))
          c.loop-slab.calls.items c.push_stores.new.calls.items c.args.window (at, s.to - at) (gaps_before (s.to + s.len) others) (gaps_before at (slabs_further a b (drop i ss)))
          (ap (λ xs. gaps_before at xs) split) c.loop-slab.invariant.calls c.in_ok-push_stores.ensures;
    }

pub returns : goal.returns
returns c =
    let all : List Slab = slabs_further c.args.offset.old c.args.offset.new c.args.slabs.now in
    grind (arith, nat_tests, none_after c.args.offset.old c.args.offset.new c.args.slabs.now c.loop-slab.slab-index, none_behind c.loop-slab.at (behind c.args.at all), none_left (c.args.calls.now.items ++ gap_calls c.args.window (gaps_before c.args.at all)), c.loop-slab.invariant.place, c.loop-slab.invariant.calls)
