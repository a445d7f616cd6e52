use Rattle.var_layout.proofs.Words.{sym, ◌∙◌, arith, is_record, ◌+◌, nat_tests}
use Rattle.nc_base.specs.declared.errors.LayoutErr.TheVariants as fault
use Rattle.var_layout.proofs.Searches.{lies_in}
use Rattle.var_layout.proofs.CreatedFiles.{at_begin, fixed_skip, fixed_next, fixed_stops, none_whole}
use Rattle.var_layout.proofs.begins.end_of_fixed.Goals as goal
use Rattle.var_layout.proofs.begins.end_of_fixed.Goals.{then-not-is_record+in-Some, else-not-is_record}

pub returns-in-None-clause-fault : goal.returns-in-None-clause-fault
returns-in-None-clause-fault c =
    let item = c.var-item.result in
    grind (arith, nat_tests, lies_in c.args.header.now, fixed_stops c.args.header.now c.args.align.now c.args.len c.loop-k.k c.loop-k.end item, at_begin item, c.as_slice-var-items.ensures, c.var-item.is, c.is_record.ensures, c.if-not-is_record.true, c.round_up.ensures.up, c.in-None.ensures, c.loop-k.invariant)

pub loop-k-preserved : goal.loop-k-preserved
loop-k-preserved c =
    let header = c.args.header.now in
    let item = c.var-item.result in
    let lies = lies_in header _ c.loop-k.k item c.as_slice-var-items.ensures (omega arith) c.var-item.is in
    elim c.if-not-is_record.branch [
      | then-not-is_record+in-Some w ↦
          let up = w.round_up.ensures.up in
          grind (arith, nat_tests, fixed_next header c.args.align.now c.args.len c.loop-k.k c.loop-k.end w.in-Some.next item lies, at_begin item, c.is_record.ensures, c.loop-k.invariant)
      | else-not-is_record w ↦
          rw w.end-is (fixed_skip header c.args.align.now c.args.len c.loop-k.k c.loop-k.end item lies (sym c.is_record.ensures ∙ w.if-not-is_record.false) c.loop-k.invariant)
    ]

pub returns-clause-fault : goal.returns-clause-fault
returns-clause-fault c = grind (arith, nat_tests, none_whole, c.as_slice-var-items.ensures, c.loop-k.invariant.none)
