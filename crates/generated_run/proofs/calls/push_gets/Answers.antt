use Rattle.generated_run.proofs.Words.{true, codes, columns_of}
use Rattle.nc_base.specs.declared.request.Call.TheVariants as call
use Rattle.generated_run.proofs.CallLaws.{two_pushed}
use Rattle.generated_run.proofs.calls.push_gets.Goals as goal

pub returns : goal.returns
returns c =
    two_pushed c.args.calls.now c.push.new.self c.push-2.new.self c.in_ok-get_columns.field-0 c.in_ok-get_columns-2.field-0
    (call.Get true (codes "temp") (columns_of c.args.size c.args.rank)) (call.Get true (codes "precip") (columns_of c.args.size c.args.rank))
    c.in_ok-push.ensures.ok c.in_ok-push-2.ensures.ok c.in_ok-get_columns.ensures c.in_ok-get_columns-2.ensures
