-- The parts of the helpers so far came back.
use Rattle.get_exchange.proofs.Words.{OnOk, AreComing, Rose, In, get_turns, AreRead, domain_of, part_of, ReadWorker}
use Rattle.get_exchange.proofs.FetchLaws.{GotBy}
use Rattle.get_exchange.proofs.results.take_back.Given as goal

abbrev pub invariant-loop-worker : goal.invariant-loop-worker
invariant-loop-worker g l = record {
  coming : AreComing (λ end worker new. GotBy g.D.Disk l.plan end (part_of worker, domain_of worker) new) (λ worker new. Rose (g.D.Disk.faults (part_of worker)) (g.D.Disk.faults new))
      l.fn.workers.items l.yielded l.worker-iterator.rest.items l.initial.back l.back l.end;
  read : OnOk l.end ((worker : ReadWorker _) → In l.yielded worker → AreRead (get_turns l.plan (domain_of worker)) (g.D.Disk.from (part_of worker)) (g.D.Disk.held (part_of worker)) worker.shelf.line.items);
}
