-- One variable more is listed, if it is of the kind.
use Rattle.redef_mover.proofs.Words.{◌∙◌, ap, length, ℕ, [], ◌∷◌, ◌++◌, Bor, zip, length_push, YieldsList-from_slice, YieldsList-from_zip, YieldsList-from_enumerate, YieldsList-turn, YieldsList-end, Var, is_record, first_slab, is_kind}
use mathlib.Core.Bool.{beq}
use Rattle.redef_mover.proofs.SortLaws.{all_listed, kind_listed, pair_at, pairs_end, same_kind}
use Rattle.redef_mover.proofs.slabs.first_slabs.Goals as goal

pub loop-number-preserved : goal.loop-number-preserved
loop-number-preserved c =
    let olds = c.as_slice-vars.result.now in
    let news = c.as_slice-moved.result.now in
    let item : ℕ × (Bor Var × Bor Var) = (c.in-Some.number, (c.in-Some.var, c.in-Some.moved)) in
    let turn = YieldsList-turn {s = c.into_iter-number-iterator.result} (YieldsList-from_enumerate (YieldsList-from_zip (YieldsList-from_slice olds cc) (YieldsList-from_slice news cc)) cc)
    c.loop-number.yielded _ c.loop-number.yielded_by c.next.result c.next.new.self item c.in-Some.is c.next.ensures.steps in
    let at = pair_at olds news c.args.old.now.vars c.args.new.now.vars (length c.loop-number.yielded) (c.in-Some.number, (c.in-Some.var.now, c.in-Some.moved.now))
    c.as_slice-vars.ensures c.as_slice-moved.ensures turn.0 turn.1 in
    kind_listed (λ p. is_kind c.args.records (is_record c.args.old.now p.0)) (first_slab c.args.old.now) (zip c.args.old.now.vars c.args.new.now.vars)
    (length c.loop-number.yielded) (length (c.loop-number.yielded ++ item ∷ [])) (c.in-Some.var.now, c.in-Some.moved.now) c.first_slab-slab.result
    (beq c.is_record.result c.args.records) c.loop-number.slabs.items c.push_if.new.slabs.items at.within at.here (length_push c.loop-number.yielded item)
    (same_kind c.is_record.result c.args.records ∙ ap (λ k. is_kind c.args.records k) c.is_record.ensures) c.first_slab-slab.ensures c.in_ok-push_if.ensures c.loop-number.invariant

pub returns : goal.returns
returns c =
    let olds = c.as_slice-vars.result.now in
    let news = c.as_slice-moved.result.now in
    let end = YieldsList-end {s = c.into_iter-number-iterator.result} (YieldsList-from_enumerate (YieldsList-from_zip (YieldsList-from_slice olds cc) (YieldsList-from_slice news cc)) cc)
    c.loop-number.yielded _ c.loop-number.yielded_by c.next.result c.next.new.self c.in-None.is c.next.ensures.steps in
    all_listed (λ p. is_kind c.args.records (is_record c.args.old.now p.0)) (first_slab c.args.old.now) (zip c.args.old.now.vars c.args.new.now.vars)
    (length c.loop-number.yielded) c.loop-number.slabs.items
    (pairs_end olds news c.args.old.now.vars c.args.new.now.vars (length c.loop-number.yielded) c.as_slice-vars.ensures c.as_slice-moved.ensures end.1) c.loop-number.invariant
