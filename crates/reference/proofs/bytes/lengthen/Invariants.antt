-- The zeros that are still to come make the whole.
use Rattle.reference.proofs.Words.{◌≡◌, length, longer}
use Rattle.reference.proofs.bytes.lengthen.Given as goal

abbrev pub invariant-loop-length : goal.invariant-loop-length
invariant-loop-length l = record {
  whole : longer l.file.items l.size ≡ longer l.initial.file.items l.size;
  long : length l.file.items ≡ l._length;
}
