use Rattle.var_layout.proofs.Words.{sym, ◌∙◌, arith, nat_tests}
use Rattle.var_layout.proofs.CreatedFiles.{whole_header, item_there, record_near, write_record, write_fixed, written_whole}
use Rattle.var_layout.proofs.begins.write_begins.Goals as goal
use Rattle.var_layout.proofs.begins.write_begins.Goals.{then-is_record, else-is_record}

pub overflow_add-record : goal.overflow_add-record
overflow_add-record c =
    let lies = item_there c.args.header.now c.args.align.now c.args.len c.args.vars.now c.loop-var.vars c.loop-var.var-index c.loop-var.fixed c.loop-var.record _
    c.loop-var.auto.vars (omega arith) c.var-item.is c.loop-var.invariant in
    grind (arith, nat_tests, record_near (whole_header c.args.header.now c.args.vars.now) c.args.align.now c.args.len c.loop-var.var-index, c.requires.records_fit, c.is_record.ensures, c.if-is_record.true, c.vsize_of-bytes.ensures, c.loop-var.invariant.place)

pub loop-var-preserved : goal.loop-var-preserved
loop-var-preserved c =
    let lies = item_there c.args.header.now c.args.align.now c.args.len c.args.vars.now c.loop-var.vars c.loop-var.var-index c.loop-var.fixed c.loop-var.record _
    c.loop-var.auto.vars (omega arith) c.var-item.is c.loop-var.invariant in
    elim c.if-is_record.branch [
      | then-is_record w ↦
          rw (w.vars-is, w.fixed-is, w.record-is)
          (write_record c.args.header.now c.args.align.now c.args.len c.args.vars.now c.loop-var.vars c.loop-var.var-index c.loop-var.fixed c.loop-var.record c.vsize_of-bytes.result
          _ lies (sym c.is_record.ensures ∙ w.if-is_record.true) c.requires.records_fit c.vsize_of-bytes.ensures c.loop-var.invariant)
      | else-is_record w ↦
          rw (w.vars-is, w.fixed-is, w.record-is)
          (write_fixed c.args.header.now c.args.align.now c.args.len c.args.vars.now c.loop-var.vars c.loop-var.var-index c.loop-var.fixed c.loop-var.record c.vsize_of-bytes.result
          w.round_up-var.result _ lies (sym c.is_record.ensures ∙ w.if-is_record.false) c.requires.fixed_fit c.vsize_of-bytes.ensures w.round_up-var.ensures.up c.loop-var.invariant)
    ]

pub returns : goal.returns
returns c =
    grind (arith, nat_tests, written_whole c.args.header.now c.args.align.now c.args.len c.args.vars.now c.loop-var.vars, c.loop-var.auto.vars, c.loop-var.invariant)
