-- The gaps of the fixed variables come first, then those of record after record, then the last one.
use Rattle.redef_mover.proofs.Words.{◌≡◌, ◌∙◌, ◌-◌, ◌≤◌, refl, [], ◌∷◌, ℕ, arith, on_ok_weaker, gaps, Slabs, nat_tests}
use Rattle.redef_mover.proofs.KeptLaws.{beside_front, kept_of}
use Rattle.redef_mover.proofs.ClearLaws.{above, fixed_first, front_clearable, gaps_on, next_record, spaced_on}
use Rattle.redef_mover.proofs.LeftLaws.{alone, last_calls, last_kept, none_done, one_gap, part_done, part_kept}
use Rattle.redef_mover.proofs.gaps.clear_gaps.Goals as goal

last_gap : (slabs : Slabs) (r at end : ℕ) → slabs.count ≤ r → gaps at end (above slabs r) ≡ (at, end - at) ∷ []
last_gap slabs r at end l = grind (arith, nat_tests)

pub clear_before-requires-clause-clearable : goal.clear_before-requires-clause-clearable
clear_before-requires-clause-clearable g c κs within =
    front_clearable _ _ _ _ c.args.end _ _ _ (fixed_first c.args.slabs.now c.deref.result.now 0 0 c.deref.ensures.value refl refl) c.requires.spaced c.requires.inside c.requires.room

pub loop-record-init : goal.loop-record-init
loop-record-init g c =
    let split = fixed_first c.args.slabs.now c.deref.result.now 0 0 c.deref.ensures.value refl refl in
    record {
      from = c.in_ok-at.ensures.from;
      len = c.in_ok-at.ensures.len;
      spaced = spaced_on _ _ _ _ _ _ split c.in_ok-at.ensures.place c.requires.spaced;
      left = part_done _ _ _ _ _ (gaps_on c.args.first c.in_ok-at.at c.args.end _ _ _ split c.in_ok-at.ensures.place) (λ x h. h)
          (none_done _ _ refl (λ x h. h)) c.in_ok-at.ensures.bytes c.in_ok-at.ensures.calls c.in_ok-at.ensures.kept;
      faults = c.in_ok-at.ensures.cause.later;
    }

pub clear_before-requires-in-loop-record-clause-clearable : goal.clear_before-requires-in-loop-record-clause-clearable
clear_before-requires-in-loop-record-clause-clearable g c κs within =
    let inside = c.requires.inside in
    grind (arith, nat_tests, front_clearable, next_record c.args.slabs.now c.deref-in-loop-record.result.now c.loop-record.record, c.loop-record.invariant.len, c.deref-in-loop-record.ensures.value, c.loop-record-test.true, c.loop-record.invariant.spaced, c.requires.room)

pub loop-record-preserved : goal.loop-record-preserved
loop-record-preserved g c =
    let split =
    next_record c.args.slabs.now c.deref-in-loop-record.result.now c.loop-record.record _ _ c.deref-in-loop-record.ensures.value c.loop-record-test.true c.times-offset.ensures.old c.times-offset.ensures.new in
    let later = c.in_ok-at-2.ensures.cause.later in
    let before = c.loop-record.invariant.faults in
    record {
      from = c.in_ok-at-2.ensures.from;
      len = c.in_ok-at-2.ensures.len ∙ c.loop-record.invariant.len;
      spaced = spaced_on _ _ _ _ _ _ split c.in_ok-at-2.ensures.place c.loop-record.invariant.spaced;
      left = part_done _ _ _ _ _ (gaps_on c.loop-record.at c.in_ok-at-2.at c.args.end _ _ _ split c.in_ok-at-2.ensures.place) (λ x h. h)
          c.loop-record.invariant.left c.in_ok-at-2.ensures.bytes c.in_ok-at-2.ensures.calls c.in_ok-at-2.ensures.kept;
      faults = omega arith;
    }

pub returns-in_err-at-clause-kept : goal.returns-in_err-at-clause-kept
returns-in_err-at-clause-kept g c =
    let split = fixed_first c.args.slabs.now c.deref.result.now 0 0 c.deref.ensures.value refl refl in
    kept_of _ _ _ _ (λ x h. beside_front _ _ _ _ (gaps_on _ _ _ _ _ _ split refl) h) c.in_err-at.ensures.kept

pub returns-in_err-at-2-clause-kept : goal.returns-in_err-at-2-clause-kept
returns-in_err-at-2-clause-kept g c =
    let split =
    next_record c.args.slabs.now c.deref-in-loop-record.result.now c.loop-record.record _ _ c.deref-in-loop-record.ensures.value c.loop-record-test.true c.times-offset.ensures.old c.times-offset.ensures.new in
    part_kept _ _ _ _ (gaps_on c.loop-record.at _ c.args.end _ _ _ split refl) (λ x h. h) c.loop-record.invariant.left c.in_err-at-2.ensures.kept

pub returns-clause-bytes : goal.returns-clause-bytes
returns-clause-bytes g c = grind (arith, nat_tests, last_gap, c.loop-record.invariant.left, c.clear.ensures.bytes)

pub returns-clause-calls : goal.returns-clause-calls
returns-clause-calls g c =
    on_ok_weaker c.clear.result
    (λ e. last_calls _ _ (last_gap c.args.slabs.now c.loop-record.record c.loop-record.at c.args.end (omega arith)) c.loop-record.invariant.left (one_gap _ _ _ _ _ e)) c.clear.ensures.calls

pub returns-clause-kept : goal.returns-clause-kept
returns-clause-kept g c =
    last_kept _ _ _ (last_gap c.args.slabs.now c.loop-record.record c.loop-record.at c.args.end (omega arith)) (λ x h. alone _ _ x h) c.loop-record.invariant.left c.clear.ensures.kept
