-- The last of the slabs that are left is moved.
use Rattle.redef_mover.proofs.Words.{◌≡◌, ◌∙◌, ◌-◌, ◌<◌, ◌≤◌, refl, sym, subst, ◌++◌, ap, length, List, [], ◌∷◌, get_or, take, ℕ, arith, reverse, Slab, Shift, further, slab_of, AreMovable, IsMovable, take_all, nat_tests}
use Rattle.redef_mover.proofs.LeftLaws.{none_done, part_done, part_kept, placed, turned, whole_calls}
use Rattle.redef_mover.proofs.MovesLaws.{in_record, slab_first}
use Rattle.redef_mover.proofs.moving.move_slabs.Goals as goal

abbrev none : Shift
none = record { from = 0; to = 0; len = 0 }

-- one of the slabs, as the code has it
fit : (long z room a b k : ℕ) (ss : List Shift) (s : Slab) → AreMovable long z room (placed a b ss) → k < length ss → s ≡ further a b (slab_of (get_or ss k none)) → IsMovable long z room s
fit long z room a b k ss s all l e = subst (λ (t : Slab). IsMovable long z room t) (sym e) (all (further a b (slab_of (get_or ss k none))) (in_record a b ss k none l))

pub further-requires : goal.further-requires
further-requires g c =
    let here = fit _ c.args.size _ c.args.offset.old c.args.offset.new (c.loop-k.k - 1) c.args.slabs.now _ c.requires.movable (omega arith) refl in
    grind (arith, nat_tests)

pub move_changed-requires-clause-movable : goal.move_changed-requires-clause-movable
move_changed-requires-clause-movable g c κs within =
    let here = fit _ c.args.size _ c.args.offset.old c.args.offset.new (c.loop-k.k - 1) c.args.slabs.now _ c.requires.movable (omega arith) c.further.ensures in
    grind (arith, nat_tests, c.loop-k.invariant.len)

pub loop-k-init : goal.loop-k-init
loop-k-init g c = record {
  from = c.requires.from;
  len = refl;
  left = none_done _ _ (ap (λ (ss : List Shift). reverse (placed c.args.offset.old c.args.offset.new ss)) (take_all (length c.args.slabs.now) c.args.slabs.now (omega arith)))
      (λ x h. turned _ x h);
  faults = omega arith;
}

-- the last of those that are left
last_of : (a b k : ℕ) (ss : List Shift) (s : Slab) → 0 < k → k ≤ length ss → s ≡ further a b (slab_of (get_or ss (k - 1) none))
    → reverse (placed a b (take k ss)) ≡ (s ∷ []) ++ reverse (placed a b (take (k - 1) ss))
last_of a b k ss s some l e = slab_first a b ss (k - 1) k none s e (omega arith) (omega arith)

pub loop-k-preserved : goal.loop-k-preserved
loop-k-preserved g c =
    let later = c.in_ok-move_changed.ensures.cause.later in
    let before = c.loop-k.invariant.faults in
    record {
      from = c.in_ok-move_changed.ensures.from;
      len = c.in_ok-move_changed.ensures.len ∙ c.loop-k.invariant.len;
      left = part_done _ (slab_of c.further.result ∷ []) _ _ _ (last_of _ _ c.loop-k.k c.args.slabs.now _ (omega arith) (omega arith) c.further.ensures) (λ x h. h)
          c.loop-k.invariant.left c.in_ok-move_changed.ensures.bytes c.in_ok-move_changed.ensures.calls c.in_ok-move_changed.ensures.kept;
      faults = omega arith;
    }

pub returns-clause-bytes : goal.returns-clause-bytes
returns-clause-bytes g c = grind (arith, nat_tests, placed, c.loop-k.invariant.left)

pub returns-clause-calls : goal.returns-clause-calls
returns-clause-calls g c =
    let end : c.loop-k.k ≡ 0 = omega arith in
    whole_calls (ap (λ (n : ℕ). reverse (placed c.args.offset.old c.args.offset.new (take n c.args.slabs.now))) end) c.loop-k.invariant.left

pub returns-clause-kept : goal.returns-clause-kept
returns-clause-kept g c = c.loop-k.invariant.left.kept

pub returns-in_err-move_changed-clause-kept : goal.returns-in_err-move_changed-clause-kept
returns-in_err-move_changed-clause-kept g c =
    part_kept _ (slab_of c.further.result ∷ []) _ _ (last_of _ _ c.loop-k.k c.args.slabs.now _ (omega arith) (omega arith) c.further.ensures) (λ x h. h)
    c.loop-k.invariant.left c.in_err-move_changed.ensures.kept
