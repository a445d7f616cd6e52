use Rattle.rank_core.proofs.Words.{find_dim, arith, nat_tests}
use Rattle.rank_core.proofs.StepLaws.{dim_is}
use Rattle.rank_core.proofs.rank.Rank.dim_len.Goals as goal

pub returns-then-dim-eq0 : goal.returns-then-dim-eq0
returns-then-dim-eq0 c =
    let a = c.self.inside in
    grind (arith, nat_tests, dim_is a.header.now c.args.name.now a.known c.in_ok-place.place c.index-as_slice-place.result, c.find_dim.ensures.found, c.index-as_slice-place.is, c.as_slice.ensures, c.if-dim-eq0.true)

pub returns-else-dim-eq0 : goal.returns-else-dim-eq0
returns-else-dim-eq0 c =
    let a = c.self.inside in
    grind (arith, nat_tests, dim_is a.header.now c.args.name.now a.known c.in_ok-place.place c.index-as_slice-place.result, c.find_dim.ensures.found, c.index-as_slice-place.is, c.as_slice.ensures, c.if-dim-eq0.false)
