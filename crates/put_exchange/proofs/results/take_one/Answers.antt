-- What was taken is what was put.
use Rattle.put_exchange.proofs.Words.{refl, part_state}
use Rattle.put_exchange.proofs.WorkerLaws.{worker_served}
use Rattle.put_exchange.proofs.results.take_one.Goals as goal

pub returns-clause-put : goal.returns-clause-put
returns-clause-put g c =
    let worker = c.args.worker in
    let back = c.take-ends.result in
    let state = part_state g.D.Disk in
    worker_served _ _ _ _ _ _ _ c.requires.plan c.requires.worker refl refl
    c.take-ends.ensures.served c.settle.ensures.equal
