use Rattle.imap_extents.proofs.Cited.{◌≡◌, ◌+◌, ◌-◌, arith, nat_tests}
use Rattle.imap_extents.proofs.EndLaws.{patterns_by_last}
use Rattle.imap_extents.proofs.runs.BitRunRun.any_unfit.Goals as goal

pub returns-in-Some : goal.returns-in-Some
returns-in-Some c =
    let count : c.args.count ≡ c.args.count - 1 + 1 = omega (arith, c.if-count-eq0.false) in
    grind (arith, nat_tests, patterns_by_last c.args.kind c.args.self.first c.args.self.step c.args.count (c.args.count - 1) c.in-Some.last, c.is_unfit.ensures, c.in-Some.ensures.whole, c.in-Some.ensures.small)
