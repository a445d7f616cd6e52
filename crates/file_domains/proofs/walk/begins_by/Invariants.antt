-- What is below the lower end begins by the place, and what is from the upper end on begins past it.
use Rattle.file_domains.proofs.Words.{◌≡◌, ℕ, ◌-◌, ◌<◌, ◌≤◌, length, true, false, nat_le, Extent, slice_index_or}
use Rattle.file_domains.proofs.walk.begins_by.Given as goal

abbrev pub invariant-halves : goal.invariant-halves
invariant-halves l = record {
  in_order : l.low ≤ l.high;
  bound : l.high ≤ length l.cover;
  before : (i : ℕ) (d : Extent) → i < l.low → nat_le (slice_index_or l.cover i d).at l.place ≡ true;
  after : (i : ℕ) (d : Extent) → l.high ≤ i → i < length l.cover → nat_le (slice_index_or l.cover i d).at l.place ≡ false;
}

abbrev pub decreases-halves : goal.decreases-halves
decreases-halves l = l.high - l.low
