-- The parts so far were served, and the others are as they were.
use Rattle.put_exchange.proofs.Words.{◌≡◌, length, Ok, AreServedTo}
use Rattle.put_exchange.proofs.PutLaws.{PutBy}
use Rattle.put_exchange.proofs.in_turn.put_parts.Given as goal

abbrev pub invariant-loop-place : goal.invariant-loop-place
invariant-loop-place g l = record {
  served : AreServedTo (PutBy g.D.Disk l.plan (Ok (tt {0}))) l.place l.domains l.initial.parts l.parts;
  buf : length l.buf ≡ length l.initial.buf;
}
