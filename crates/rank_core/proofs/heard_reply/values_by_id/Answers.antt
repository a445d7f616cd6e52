use Rattle.rank_core.proofs.Words.{◌+◌, drop, zip, arith, nat_cmp, get, read_in, nat_tests}
use Rattle.rank_core.proofs.HeardLaws.{shape, added_next, got_more, got_shape, shapes_next, zip_next, same_at, same_long}
use Rattle.rank_core.proofs.heard_reply.values_by_id.Goals as goal

pub values_of-requires-clause-accepted : goal.values_of-requires-clause-accepted
values_of-requires-clause-accepted c = grind (arith, nat_tests, read_in, c.requires.gets.0, c.requires.gets.1.each, c.index-gets-index.is)

pub values_of-requires-clause-long : goal.values_of-requires-clause-long
values_of-requires-clause-long c =
    grind (arith, nat_tests, same_long, same_at, c.requires.long, c.loop-index-test.true, c.as_slice.ensures, c.index-got-index.is, c.index-gets-index.is)

pub loop-index-preserved : goal.loop-index-preserved
loop-index-preserved c =
    grind (
      arith,
      nat_tests,
      zip (drop (c.loop-index.index + 1) c.args.gets.now) (drop (c.loop-index.index + 1) c.args.got.now),
      same_long,
      zip_next c.args.gets.now c.args.got.now c.loop-index.index c.index-gets-index.result c.index-got-index.result,
      got_more c.args.header.now c.index-gets-index.result c.index-got-index.result c.in_ok-values.values,
      got_shape c.args.header.now c.index-gets-index.result c.index-got-index.result c.in_ok-values.values,
      read_in c.args.gets.now c.loop-index.index c.index-gets-index.result c.loop-index-test.true,
      shape c.in_ok-values.values,
      added_next (get nat_cmp c.loop-index.found) c.index-gets-index.result.id,
      shapes_next c.args.header.now c.args.gets.now (get nat_cmp c.loop-index.found) c.index-gets-index.result,
      c.requires.long,
      c.as_slice.ensures,
      c.in_ok-values.ensures,
      c.index-gets-index.is,
      c.index-got-index.is,
      c.loop-index.invariant.shapes,
      c.in_ok-add.ensures,
      c.loop-index.invariant.so_far,
      c.requires.gets.1.var,
    )
