-- The last of the records that are left is moved; the fixed variables come last.
use Rattle.redef_mover.proofs.Words.{◌≡◌, ◌∙◌, ◌-◌, refl, List, ℕ, arith, reverse, Slab, In, listed, AreMovable, nat_tests}
use Rattle.redef_mover.proofs.LeftLaws.{last_kept, none_done, part_done, part_kept, placed, turned, unturned}
use Rattle.redef_mover.proofs.MovesLaws.{fixed_last, fixed_listed, record_first, record_listed}
use Rattle.redef_mover.proofs.moving.move_all.Goals as goal

some_movable : (long now z room more : ℕ) (some all : List Slab) → AreMovable long z room all → now ≡ long → more ≡ room → ((s : Slab) → In some s → In all s)
    → AreMovable now z more some
some_movable long now z room more some all h e f within s i = grind (arith, nat_tests)

pub move_slabs-requires-clause-movable : goal.move_slabs-requires-clause-movable
move_slabs-requires-clause-movable g c κs within =
    some_movable _ _ c.args.size _ _ (placed c.times.result.old c.times.result.new c.deref.result.now) (listed c.args.slabs.now) c.requires.slabs.movable c.loop-record.invariant.len (omega arith)
    (λ s i. record_listed c.args.slabs.now c.deref.result.now (c.loop-record.record - 1) c.times.result.old c.times.result.new s c.deref.ensures.value (omega arith) c.times.ensures.old c.times.ensures.new i)

pub move_slabs-requires-2-clause-movable : goal.move_slabs-requires-2-clause-movable
move_slabs-requires-2-clause-movable g c κs within =
    some_movable _ _ c.args.size _ _ (placed 0 0 c.deref-2.result.now) (listed c.args.slabs.now) c.requires.slabs.movable c.loop-record.invariant.len (omega arith)
    (λ s i. fixed_listed c.args.slabs.now c.deref-2.result.now 0 0 s c.deref-2.ensures.value refl refl i)

pub loop-record-init : goal.loop-record-init
loop-record-init g c = record {
  from = c.requires.from;
  len = refl;
  left = none_done _ _ refl (λ x h. turned _ x h);
  faults = omega arith;
}

pub loop-record-preserved : goal.loop-record-preserved
loop-record-preserved g c =
    let later = c.in_ok-move_slabs.ensures.cause.later in
    let before = c.loop-record.invariant.faults in
    record {
      from = c.in_ok-move_slabs.ensures.from;
      len = c.in_ok-move_slabs.ensures.len ∙ c.loop-record.invariant.len;
      left = part_done _ (reverse (placed c.times.result.old c.times.result.new c.deref.result.now)) _ _ _
          (record_first c.args.slabs.now c.deref.result.now (c.loop-record.record - 1) c.loop-record.record _ _ c.deref.ensures.value (omega arith) c.times.ensures.old c.times.ensures.new) (λ x h. unturned _ x h)
          c.loop-record.invariant.left c.in_ok-move_slabs.ensures.bytes c.in_ok-move_slabs.ensures.calls c.in_ok-move_slabs.ensures.kept;
      faults = omega arith;
    }

pub returns-clause-bytes : goal.returns-clause-bytes
returns-clause-bytes g c = grind (arith, nat_tests, fixed_last, c.loop-record.invariant.left, c.move_slabs-2.ensures.bytes)

pub returns-clause-calls : goal.returns-clause-calls
returns-clause-calls g c = grind (arith, nat_tests, fixed_last, c.loop-record.invariant.left, c.move_slabs-2.ensures.calls)

pub returns-in_err-move_slabs-clause-kept : goal.returns-in_err-move_slabs-clause-kept
returns-in_err-move_slabs-clause-kept g c =
    part_kept _ (reverse (placed c.times.result.old c.times.result.new c.deref.result.now)) _ _
    (record_first c.args.slabs.now c.deref.result.now (c.loop-record.record - 1) c.loop-record.record _ _ c.deref.ensures.value (omega arith) c.times.ensures.old c.times.ensures.new) (λ x h. unturned _ x h)
    c.loop-record.invariant.left c.in_err-move_slabs.ensures.kept

pub returns-clause-kept : goal.returns-clause-kept
returns-clause-kept g c =
    last_kept _ _ _ (fixed_last c.args.slabs.now c.deref-2.result.now c.loop-record.record 0 0 c.deref-2.ensures.value (omega arith) refl refl) (λ x h. unturned _ x h)
    c.loop-record.invariant.left c.move_slabs-2.ensures.kept
