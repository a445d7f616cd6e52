-- The lines so far have their replies, and the blobs of the others are there.
use Rattle.file_owner.proofs.Words.{◌≡◌, ℕ, ◌≤◌, length, slice_get, replies, Grows}
use Rattle.file_owner.proofs.PutLaws.{below}
use Rattle.file_owner.proofs.steps.reply_all.Given as goal

abbrev pub invariant-loop-number : goal.invariant-loop-number
invariant-loop-number g l = record {
  lines : Grows l.initial.back (below l.number (replies l.pair l.records l.fn.table)) l.back;
  long : length l.table.items ≡ length l.fn.table;
  blobs : (r : ℕ) → l.number ≤ r → slice_get l.table.items r ≡ slice_get l.fn.table r;
}
