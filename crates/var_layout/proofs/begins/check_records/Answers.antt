use Rattle.var_layout.proofs.Words.{sym, ◌∙◌, arith, is_record, nat_tests}
use Rattle.nc_base.specs.declared.errors.LayoutErr.TheVariants as fault
use Rattle.var_layout.proofs.Searches.{lies_in}
use Rattle.var_layout.proofs.CreatedFiles.{records_skip, records_next, records_stop, none_whole}
use Rattle.var_layout.proofs.begins.check_records.Goals as goal
use Rattle.var_layout.proofs.begins.check_records.Goals.{then-is_record+in-Some, else-is_record}

pub returns-in-None : goal.returns-in-None
returns-in-None c =
    let lies = lies_in c.args.header.now _ c.loop-k.k c.var-item.result c.as_slice-var-items.ensures (omega arith) c.var-item.is in
    grind (arith, nat_tests, records_stop c.args.header.now c.args.align.now c.args.len c.loop-k.k c.loop-k.begin, c.is_record.ensures, c.if-is_record.true, c.in-None.ensures, c.loop-k.invariant)

pub loop-k-preserved : goal.loop-k-preserved
loop-k-preserved c =
    let lies = lies_in c.args.header.now _ c.loop-k.k c.var-item.result c.as_slice-var-items.ensures (omega arith) c.var-item.is in
    elim c.if-is_record.branch [
      | then-is_record+in-Some w ↦
          rw w.begin-is (records_next c.args.header.now c.args.align.now c.args.len c.loop-k.k c.loop-k.begin w.in-Some.next _ lies (sym c.is_record.ensures ∙ w.if-is_record.true)
          w.in-Some.ensures.0 w.in-Some.ensures.1 c.loop-k.invariant)
      | else-is_record w ↦
          rw w.begin-is (records_skip c.args.header.now c.args.align.now c.args.len c.loop-k.k c.loop-k.begin _ lies (sym c.is_record.ensures ∙ w.if-is_record.false) c.loop-k.invariant)
    ]

pub returns : goal.returns
returns c = grind (arith, nat_tests, none_whole, c.as_slice-var-items.ensures, c.loop-k.invariant.none)
