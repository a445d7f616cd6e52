use Rattle.printed_text.proofs.Cited.{arith, var_lines, is_listed, nat_tests}
use Rattle.printed_text.proofs.OffsetLaws.{var_ends, listed_more, unlisted_more}
use Rattle.printed_text.proofs.offsets.push_vars.Goals as goal

pub push_var-requires : goal.push_var-requires
push_var-requires c = grind (arith, nat_tests, var_ends, c.as_slice-vars.ensures, c.var-item.is)

pub loop-var-preserved : goal.loop-var-preserved
loop-var-preserved c =
    let h = c.args.header.now in
    let t = c.args.of_records in
    grind (arith, nat_tests, listed_more (var_lines h) (is_listed t h) c.args.out.now.items c.loop-var.out.items c.if-is_listed.out.items, unlisted_more (var_lines h) (is_listed t h) c.args.out.now.items c.loop-var.out.items c.if-is_listed.out.items, c.var-item.is, c.loop-var.invariant, c.is_listed.ensures)
