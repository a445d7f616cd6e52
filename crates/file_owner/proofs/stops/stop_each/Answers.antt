use Rattle.file_owner.proofs.Words.{refl, arith, Stop, stop_each}
use Rattle.file_owner.proofs.PutLaws.{all_below, put_below}
use Rattle.file_owner.proofs.stops.stop_each.Goals as goal

pub loop-number-preserved : goal.loop-number-preserved
loop-number-preserved g c =
    put_below c.args.back.now c.loop-number.back c.put_on.new.self c.loop-number.number stop_each Stop c.loop-number.invariant refl c.put_on.ensures.here c.put_on.ensures.others c.put_on.ensures.len

pub returns : goal.returns
returns g c = all_below c.args.back.now c.loop-number.back c.loop-number.number stop_each c.loop-number.invariant (omega arith)
