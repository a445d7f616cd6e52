use Rattle.rank_core.proofs.Words.{ℕ, slice_get, length_of, map_more, arith, nat_tests}
use Rattle.rank_core.proofs.look.filling.lengths_of.Goals as goal

pub loop-id-preserved : goal.loop-id-preserved
loop-id-preserved c =
    let own = λ (id : ℕ). length_of (slice_get c.args.header.now.dims id) in
    grind (arith, nat_tests, map_more own c.args.ids.now c.loop-id.id-index 0 c.loop-id-test.true, c.loop-id.invariant, c.length_of.ensures)
