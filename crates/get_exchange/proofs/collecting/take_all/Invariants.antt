-- What was taken of each helper and what is left are what was to be taken.
use Rattle.get_exchange.proofs.Words.{◌≡◌, ℕ, length, Some, slice_get, flat_map, IfErr, OnOk, Memory, AreAsLong, AreReady, HaveTakenTurns, IsKept, IsShelfIn, turns_due, ReadWorker}
use Rattle.get_exchange.proofs.collecting.take_all.Given as goal

abbrev pub invariant-rounds : goal.invariant-rounds
invariant-rounds g l = record {
  long : length l.workers ≡ length l.initial.workers;
  ready : (k : ℕ) (worker : ReadWorker _) → slice_get l.workers k ≡ Some worker → IsShelfIn l.plan.list.now worker.shelf;
  kept : (k : ℕ) (old new : ReadWorker _) → slice_get l.initial.workers k ≡ Some old → slice_get l.workers k ≡ Some new → IsKept old new;
  blobs : AreAsLong l.initial.table l.table;
  taken : OnOk l.end (HaveTakenTurns l.plan.list.now l.initial.workers l.workers l.initial.table l.table);
  memory : IfErr l.end (λ e. e ≡ Memory);
  lenders : AreReady l.lenders.each.items;
}

abbrev pub decreases-rounds : goal.decreases-rounds
decreases-rounds g l = length (flat_map (λ worker. turns_due worker.shelf) l.workers)
