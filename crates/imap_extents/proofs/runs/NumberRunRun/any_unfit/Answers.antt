use Rattle.imap_extents.proofs.Cited.{◌-◌, arith, fits, nat_tests}
use Rattle.imap_extents.proofs.EndLaws.{numbers_by_last}
use Rattle.imap_extents.proofs.runs.NumberRunRun.any_unfit.Goals as goal

pub returns : goal.returns
returns c =
    let kind = c.args.kind in
    grind (arith, nat_tests, fits kind, numbers_by_last kind c.args.self.first c.args.self.step c.args.count (c.args.count - 1), c.if-count-eq0.false, c.number_at.ensures, c.is_unfit.ensures, c.if-is_unfit.false, c.is_unfit-2.ensures, c.number_at-2.ensures)
