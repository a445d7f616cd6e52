use Rattle.request_queue.proofs.Words.{◌≡◌, ◌+◌, take, sum_by, count_by, held, is_buffered, freed}
use Rattle.request_queue.proofs.taken.free.Given as goal

abbrev pub invariant-loop-request : goal.invariant-loop-request
invariant-loop-request l = record {
  count : l.buffered + count_by is_buffered (take l.request-index l.taken) ≡ l.initial.buffered;
  room : l.room ≡ freed l.initial.room (sum_by held (take l.request-index l.taken));
}
