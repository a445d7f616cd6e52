-- One step more, and the close.
use Rattle.reference.proofs.Words.{◌≡◌, ◌∙◌, sym, ap, map, get_or, fold_more, slice_get-get_or, IfOk-weaker, serial_from, setting_of, close_by, counted, setting, first_stand, step_to, as_end, going_of}
use Rattle.nc_base.specs.declared.script.OverlapRule.{OverlapRule as Rule}
use Rattle.nc_base.specs.declared.step.Mark.TheVariants as mark
use Rattle.run_laws.specs.Arrivals as arrivals
use Rattle.reference.proofs.EndLaws.{closes}
use Rattle.reference.proofs.serial.serial_run.Goals as goal

pub loop-place-preserved : goal.loop-place-preserved
loop-place-preserved c =
    let s = setting_of c.args.script.now c.args.header.now in
    let order = c.args.order.now in
    let place = c.loop-place.place in
    let m = get_or order place (mark.Meet 0) in
    record {
      stands = c.in_ok-do_step.ensures.stands;
      state = c.in_ok-do_step.ensures.step m (slice_get-get_or order place (mark.Meet 0) c.loop-place-test.true)
          ∙ ap (λ (st : arrivals.Stand). step_to s st m) c.loop-place.invariant.state
          ∙ sym (fold_more (step_to s) (first_stand c.args.header.now c.args.bytes.now c.args.script.now.calls) order place (mark.Meet 0) c.loop-place-test.true);
    }

pub closed-requires : goal.closed-requires
closed-requires c = record { known = λ r runner e. (c.loop-place.invariant.stands.each r runner e).low }

pub returns : goal.returns
returns c =
    let stand = c.loop-place.stand in
    IfOk-weaker c.closed.result
    (λ end. (rule : Rule) → as_end end ≡ close_by (setting c.args.header.now rule) (counted stand.file.items stand.records) (map going_of stand.runners.items))
    (λ end. as_end end ≡ serial_from c.args.script.now c.args.header.now c.args.bytes.now c.args.order.now)
    (λ end h. h c.args.script.now.hints.overlap
    ∙ closes c.args.script.now c.args.header.now c.args.bytes.now c.args.order.now c.loop-place.place stand c.loop-place-test.false c.loop-place.invariant.state) c.closed.ensures
