-- The next step of a legal order.
use Rattle.reference.proofs.Words.{◌≡◌, ◌∙◌, refl, sym, ap, subst, equal_itself, Some, same_Some, slice_get-get_or, on_ok_weaker, Mark, setting_of, step_to, ok_both, stand_of, arith, nat_tests}
use Rattle.nc_base.specs.declared.step.Mark.TheVariants as mark
use Rattle.reference.proofs.EndLaws.{meeting_stands, own_stands, wait_next}
use Rattle.reference.proofs.stand.Stand.do_step.Goals as goal

pub meet-requires-clause-waiting : goal.meet-requires-clause-waiting
meet-requires-clause-waiting c =
    let there = slice_get-get_or c.args.order.now c.args.place (mark.Meet 0) c.requires.place ∙ ap (λ (m : Mark). Some m) c.in-Meet.is in
    λ r runner e.
    wait_next c.args.script.now c.args.header.now c.args.order.now c.args.place (mark.Meet c.in-Meet.field-0) c.requires.legal there c.args.self.now r runner c.requires.lawful c.requires.stands
    e refl

pub alone-requires-clause-waiting : goal.alone-requires-clause-waiting
alone-requires-clause-waiting c = λ runner e.
    let there = slice_get-get_or c.args.order.now c.args.place (mark.Meet 0) c.requires.place ∙ ap (λ (m : Mark). Some m) c.in-Solo.is in
    wait_next c.args.script.now c.args.header.now c.args.order.now c.args.place (mark.Solo c.in-Solo.rank c.in-Solo.field-1) c.requires.legal there c.args.self.now c.in-Solo.rank runner
    c.requires.lawful c.requires.stands e (equal_itself c.in-Solo.rank)

pub returns-in-Meet : goal.returns-in-Meet
returns-in-Meet c =
    let there = slice_get-get_or c.args.order.now c.args.place (mark.Meet 0) c.requires.place ∙ ap (λ (m : Mark). Some m) c.in-Meet.is in
    record {
      step = on_ok_weaker c.meet.result (λ step. λ m e.
          subst (λ (x : Mark). stand_of c.meet.new.self ≡ step_to (setting_of c.args.script.now c.args.header.now) (stand_of c.args.self.now) x)
          (same_Some (mark.Meet c.in-Meet.field-0) m (sym there ∙ e)) (step c.in-Meet.field-0)) c.meet.ensures.step;
      stands = grind (arith, nat_tests, ok_both c.meet.result, meeting_stands c.args.script.now c.args.header.now c.args.order.now c.args.place c.in-Meet.field-0, c.requires.legal, c.requires.stands, c.meet.ensures.heard, c.meet.ensures.records);
    }

pub returns-in-Solo : goal.returns-in-Solo
returns-in-Solo c =
    let there = slice_get-get_or c.args.order.now c.args.place (mark.Meet 0) c.requires.place ∙ ap (λ (m : Mark). Some m) c.in-Solo.is in
    record {
      step = on_ok_weaker c.alone.result (λ step. λ m e.
          subst (λ (x : Mark). stand_of c.alone.new.self ≡ step_to (setting_of c.args.script.now c.args.header.now) (stand_of c.args.self.now) x)
          (same_Some (mark.Solo c.in-Solo.rank c.in-Solo.field-1) m (sym there ∙ e)) (step c.in-Solo.field-1)) c.alone.ensures.step;
      stands = grind (arith, nat_tests, own_stands c.args.script.now c.args.header.now c.args.order.now c.args.place c.in-Solo.rank c.in-Solo.field-1, c.requires.legal, c.requires.stands, c.alone.ensures.records, c.alone.ensures.heard);
    }
