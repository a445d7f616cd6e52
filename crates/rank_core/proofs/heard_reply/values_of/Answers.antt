use Rattle.rank_core.proofs.Words.{arith, nat_tests}
use Rattle.nc_base.specs.declared.request.Direction.TheVariants as way
use Rattle.rank_core.proofs.GetLaws.{mapped, there}
use Rattle.rank_core.proofs.HeardLaws.{got_is}
use Rattle.rank_core.proofs.heard_reply.values_of.Goals as goal

pub unpack-requires-clause-mapped : goal.unpack-requires-clause-mapped
unpack-requires-clause-mapped c = (mapped c.args.header.now c.args.post.now.var c.args.post.now.region c.requires.accepted.0 way.Get c.requires.accepted.1).2

pub unpack-requires-clause-long : goal.unpack-requires-clause-long
unpack-requires-clause-long c = grind (arith, nat_tests, there, c.index-as_slice-post.is, c.as_slice.ensures, c.requires.accepted.1, c.requires.long)

pub returns : goal.returns
returns c = grind (arith, nat_tests, there, got_is, c.index-as_slice-post.is, c.as_slice.ensures, c.requires.accepted.1, c.unpack.ensures)
