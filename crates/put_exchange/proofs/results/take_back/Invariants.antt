-- The parts of the helpers so far came back.
use Rattle.put_exchange.proofs.Words.{AreComing, Rose, domain_of, part_of}
use Rattle.put_exchange.proofs.PutLaws.{PutBy}
use Rattle.put_exchange.proofs.results.take_back.Given as goal

abbrev pub invariant-loop-worker : goal.invariant-loop-worker
invariant-loop-worker g l =
    AreComing (λ end worker new. PutBy g.D.Disk l.plan end (part_of worker, domain_of worker) new) (λ worker new. Rose (g.D.Disk.faults (part_of worker)) (g.D.Disk.faults new))
    l.fn.workers.items l.yielded l.worker-iterator.rest.items l.initial.back l.back l.end
