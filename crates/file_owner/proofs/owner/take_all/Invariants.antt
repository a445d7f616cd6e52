-- The offers of the clients so far are taken, and the other clients are as they were.
use Rattle.file_owner.proofs.Words.{◌≡◌, ◌++◌, map, take, drop, freed, offers_held, batches_of, known_of}
use Rattle.file_owner.proofs.owner.take_all.Given as goal

abbrev pub invariant-loop-client : goal.invariant-loop-client
invariant-loop-client l = record {
  batches : l.batches.items ≡ batches_of (offers_held (take l.client-index l.initial.clients));
  known : l.known ≡ known_of (offers_held (take l.client-index l.initial.clients));
  clients : l.clients ≡ map freed (take l.client-index l.initial.clients) ++ drop l.client-index l.initial.clients;
}
