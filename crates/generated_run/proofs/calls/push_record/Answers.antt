use Rattle.generated_run.proofs.Words.{List, ◌++◌, true, ap, ◌∙◌, Call, Every}
use Rattle.nc_base.specs.declared.request.Call.TheVariants as call
use Rattle.generated_run.proofs.CallLaws.{record_is, three_pushed}
use Rattle.generated_run.proofs.calls.push_record.Goals as goal

pub returns : goal.returns
returns c =
    let a = c.in_ok-put_temps.field-0 in
    let b = c.in_ok-put_precips.field-0 in
    three_pushed c.args.calls.now c.push.new.self c.push-2.new.self c.push-3.new.self a b (call.Wait true Every) c.in_ok-push.ensures.ok c.in_ok-push-2.ensures.ok c.in_ok-push-3.ensures.ok
    ∙ ap (λ (calls : List Call). c.args.calls.now ++ calls) (record_is c.args.seed c.args.rank c.args.time a b c.in_ok-put_temps.ensures c.in_ok-put_precips.ensures)
