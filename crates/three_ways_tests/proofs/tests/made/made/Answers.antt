-- The made script is lawful, whichever puts win.
use Rattle.std.proofs.Common.{◌≡◌, sym, subst, true}
use Rattle.std.proofs.lemmas.Result.{IfOk-at_ok}
use Rattle.nc_base.specs.declared.script.Script.{Script}
use Rattle.serial_spec.specs.Lawful.{is_lawful}
use Rattle.script_spec.specs.Generator.{has_counts, made_script}
use Rattle.generated_run.proofs.LawfulLaws.{made_counted, made_lawful}
use Rattle.three_ways_tests.proofs.tests.made.made.Goals as goal

pub returns-clause-lawful : goal.returns-clause-lawful
returns-clause-lawful g c =
    subst (λ (s : Script). is_lawful s ≡ true) (sym (IfOk-at_ok (λ (s : Script). s ≡ made_script 0 c.args.size) c.expect-script.ensures c.make_script.ensures))
    (made_lawful 0 c.args.size c.requires.few)

pub returns-clause-counted : goal.returns-clause-counted
returns-clause-counted g c =
    subst (λ (s : Script). has_counts s ≡ true) (sym (IfOk-at_ok (λ (s : Script). s ≡ made_script 0 c.args.size) c.expect-script.ensures c.make_script.ensures))
    (made_counted 0 c.args.size)
