use Rattle.plan_cli.proofs.Words.{refl, Err, Result, Prepared, Stop, read_kept, held_of, IsStoppedBy, name_of}
use Rattle.plan_cli.proofs.StopLaws.{passed, unprepared, untaken}
use Rattle.plan_cli.proofs.start.begin.Goals as goal

pub prepare-requires : goal.prepare-requires
prepare-requires g c = record { kept = read_kept c.in_ok-script.ensures.read.0 c.in_ok-script.script c.in_ok-script.ensures.read.1 }

pub returns-in_err-script-clause-stopped : goal.returns-in_err-script-clause-stopped
returns-in_err-script-clause-stopped g c =
    let left = g.S.Source.left c.args.source.now in
    let held = held_of g.D.DatasetFront (name_of c.args.name) c.args.dataset.now in
    let named = name_of c.args.name in
    passed (IsStoppedBy left held named _ _ _) c.take_script.result c.in_err-script.field-0.0 c.from_residual.result c.in_err-script.was
    (untaken left held named _ _ _ c.take_script.result refl c.take_script.ensures.refused c.take_script.ensures.source c.take_script.ensures.only)
    c.from_residual.ensures.1

pub returns-in-Err-clause-stopped : goal.returns-in-Err-clause-stopped
returns-in-Err-clause-stopped g c =
    let left = g.S.Source.left c.args.source.now in
    let held = held_of g.D.DatasetFront (name_of c.args.name) c.args.dataset.now in
    let result : Result Prepared Stop = Err c.in-Err.stop in
    unprepared left held (name_of c.args.name) _ _ _ c.in_ok-script.script result c.in_ok-script.ensures.asks c.prepare.ensures.untouched c.in-Err.ensures.stopped
