-- The parts so far were read, and the others are as they were.
use Rattle.get_exchange.proofs.Words.{◌≡◌, length, take, zip, Ok, AreAsLong, AreServedTo, HasReadParts, IsPast}
use Rattle.get_exchange.proofs.FetchLaws.{GotBy}
use Rattle.get_exchange.proofs.in_turn.read_parts.Given as goal

abbrev pub invariant-loop-place : goal.invariant-loop-place
invariant-loop-place g l = record {
  served : AreServedTo (GotBy g.D.Disk l.plan (Ok (tt {0}))) l.place l.domains l.initial.parts l.parts;
  buf : length l.buf ≡ length l.initial.buf;
  read : HasReadParts (λ part. g.D.Disk.from part) (λ part. g.D.Disk.held part) l.plan (zip (take l.place l.initial.parts) l.domains) l.initial.table l.table;
  blobs : AreAsLong l.initial.table l.table;
  past : IsPast l.ahead.place l.plan.list.now l.ahead.entries.now;
}
