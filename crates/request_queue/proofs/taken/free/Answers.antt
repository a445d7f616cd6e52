use Rattle.request_queue.proofs.Words.{◌-◌, arith, nat_tests}
use Rattle.request_queue.proofs.AccountLaws.{has_used}
use Rattle.request_queue.proofs.taken.free.Goals as goal

pub release-requires : goal.release-requires
release-requires c =
    let i = c.loop-request.request-index in
    grind (arith, nat_tests, has_used c.args.room.now c.args.taken.now i c.len_of.result c.request-item.result c.requires.bytes, c.len_of.ensures, c.as_slice.ensures, c.request-item.is, c.loop-request.invariant.room, c.loop-request-test.true)
