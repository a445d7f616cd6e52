-- The last of the slabs that are left is moved.
use Rattle.opening_plan.proofs.Words.{◌≡◌, ◌+◌, ◌-◌, ◌<◌, ap, length, [], ◌∷◌, ◌++◌, take, ℕ, arith, reverse, take_all, Shift, all_calls, further, slab_of, in_record, slab_first, nat_tests}
use Rattle.opening_plan.proofs.CallLaws.{moves_left, none_left, slabs_further}
use Rattle.opening_plan.proofs.moving.push_record.Goals as goal

abbrev none : Shift
none = record { from = 0; to = 0; len = 0 }

pub loop-number-init : goal.loop-number-init
loop-number-init c = grind (arith, nat_tests, take_all)

pub further-requires : goal.further-requires
further-requires c = grind (arith, nat_tests, in_record c.args.offset.old c.args.offset.new c.args.slabs.now (c.loop-number.number - 1) none, c.requires.low)

pub push_changed-requires : goal.push_changed-requires
push_changed-requires c =
    let k : c.loop-number.number - 1 < length c.args.slabs.now = omega arith in
    grind (arith, nat_tests, in_record c.args.offset.old c.args.offset.new c.args.slabs.now (c.loop-number.number - 1) none k, c.requires.low, c.requires.some, c.further.ensures)

pub loop-number-preserved : goal.loop-number-preserved
loop-number-preserved c =
    let a = c.args.offset.old in
    let b = c.args.offset.new in
    let ss = c.args.slabs.now in
    let next : c.loop-number.number ≡ c.loop-number.number - 1 + 1 = omega arith in
    let k : c.loop-number.number - 1 < length c.args.slabs.now = omega arith in
    moves_left (c.args.calls.now.items ++ all_calls c.args.window (reverse (slabs_further a b ss))) c.loop-number.calls.items c.push_changed.new.calls.items c.args.window
    (slab_of c.further.result ∷ []) (reverse (slabs_further a b (take (c.loop-number.number - 1) ss))) (reverse (slabs_further a b (take c.loop-number.number ss)))
    (slab_first a b ss (c.loop-number.number - 1) c.loop-number.number none (slab_of c.further.result) c.further.ensures next k)
    c.loop-number.invariant c.in_ok-push_changed.ensures

pub returns : goal.returns
returns c =
    let end : c.loop-number.number ≡ 0 = omega arith in
    none_left (c.args.calls.now.items ++ all_calls c.args.window (reverse (slabs_further c.args.offset.old c.args.offset.new c.args.slabs.now))) c.loop-number.calls.items
    (all_calls c.args.window (reverse (slabs_further c.args.offset.old c.args.offset.new (take c.loop-number.number c.args.slabs.now))))
    (ap (λ (n : ℕ). all_calls c.args.window (reverse (slabs_further c.args.offset.old c.args.offset.new (take n c.args.slabs.now)))) end) c.loop-number.invariant
