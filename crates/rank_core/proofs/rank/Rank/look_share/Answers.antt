use Rattle.rank_core.proofs.Words.{arith, look_record, nat_tests}
use Rattle.nc_base.specs.declared.answer.Code.TheVariants as code
use Rattle.rank_core.proofs.FillLaws.{fill_found, fill_missing}
use Rattle.rank_core.proofs.FillLookLaws.{fill_is}
use Rattle.rank_core.proofs.OutcomeLaws.{settled_is}
use Rattle.rank_core.proofs.RequestLaws.{puts_more}
use Rattle.rank_core.proofs.rank.Rank.look_share.Goals as goal

pub returns-in-None : goal.returns-in-None
returns-in-None c = grind (arith, nat_tests, fill_missing, fill_is, puts_more, c.in-None.ensures.found)

pub returns-in-Some : goal.returns-in-Some
returns-in-Some c =
    let header = c.args.self.now.header in
    grind (arith, nat_tests, fill_found header c.args.name.now c.args.number c.args.share c.args.of c.in-Some.target, settled_is c.look_record.result (look_record c.in-Some.target c.args.number c.args.share c.args.of), fill_is header c.args.number c.args.share c.args.of c.in-Some.ensures.sound c.requires.share c.args.name.now, puts_more header 0, c.in-Some.ensures.found, c.in-Some.ensures.target.header, c.look_record.ensures, c.settle.ensures)
