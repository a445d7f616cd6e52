use Rattle.plan_cli.proofs.Words.{◌≡◌, ap, rules, Option, Some, sym, subst, ◌∙◌, EndsAs, seen_at, form_of, named_by, texts, wanted_of, Wanted, option_map}
use Rattle.plan_cli.proofs.top.ncplan.Goals as goal

pub returns-in-Some-clause-ends : goal.returns-in-Some-clause-ends
returns-in-Some-clause-ends g c =
    let is : c.form_of.result ≡ Some c.in-Some.form = search rules in
    let wanted : Some (wanted_of c.in-Some.form) ≡ form_of (texts c.args.words.now) = sym (ap (option_map wanted_of) is) ∙ c.form_of.ensures in
    subst (λ (w : Option Wanted). EndsAs w (seen_at g.S.Source g.D.DatasetFront g.K.Sink (named_by w) c.args.script.now c.args.dataset.now c.args.out.now)
    (seen_at g.S.Source g.D.DatasetFront g.K.Sink (named_by w) c.give_plan.new.script c.give_plan.new.dataset c.give_plan.new.out)
    (c.give_plan.new.dataset ≡ c.args.dataset.now) c.give_plan.result) wanted c.give_plan.ensures.ends
