-- The threads so far were joined, and the inbox is as it was.
use Rattle.thread_run.proofs.Words.{◌≡◌, ◌++◌, ℕ, Some, map, length, vec_capacity, slice_get, RankEnd, OwnerItem, End, items_under, IsSettledOf, RankHandle}
use Rattle.thread_run.proofs.returned.join_all.Given as goal

abbrev pub invariant-loop-one : goal.invariant-loop-one
invariant-loop-one g l = record {
  ones : map (λ p. p.0) l.yielded ++ l.one-iterator.a.rest.items ≡ l.fn.ones.items;
  lines : map (λ p. p.1) l.yielded ++ l.one-iterator.b.rest.items ≡ l.fn.lines.items;
  inbox : l.inbox ≡ l.fn.inbox;
  long : length l.ends.items ≡ length l.yielded;
  settled : (r : ℕ) (one : RankHandle) (line : End OwnerItem) (end : RankEnd) → slice_get l.fn.ones.items r ≡ Some one → slice_get l.fn.lines.items r ≡ Some line → slice_get l.ends.items r ≡ Some end
      → IsSettledOf one (items_under r l.fn.inbox.items) line.items end;
  room : vec_capacity l.ends ≡ vec_capacity l.initial.ends;
}
