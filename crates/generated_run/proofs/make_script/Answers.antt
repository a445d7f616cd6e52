use Rattle.generated_run.proofs.MadeLaws.{script_is}
use Rattle.generated_run.proofs.make_script.Goals as goal

pub returns : goal.returns
returns c =
    script_is c.args.seed c.args.size c.in_ok-made_header.field-0 c.new.result c.in_ok-made_calls.field-0 c.in_ok-made_header.ensures c.new.ensures c.in_ok-made_calls.ensures
