-- The threads of the senders so far were started.
use Rattle.thread_run.proofs.Words.{◌≡◌, ◌++◌, ℕ, [], All, length, vec_capacity, RankItem, Line, AreOf, AreRankHandles}
use Rattle.thread_run.proofs.rank_threads.start_all.Given as goal

abbrev pub invariant-loop-out : goal.invariant-loop-out
invariant-loop-out g l = record {
  all : l.yielded ++ l.out-iterator.rest.items ≡ l.fn.senders.items;
  long : length l.ones.items ≡ length l.yielded;
  as_long : length l.lines.items ≡ length l.yielded;
  of : AreOf l.lent.run.now.header.now l.lent.run.now.script.now l.ones.items;
  handles : (inbox : Line (ℕ × RankItem)) → All (λ s. s.of ≡ inbox) l.fn.senders.items → AreRankHandles inbox [] l.ones.items l.lines.items;
  empty : All (λ line. line.items ≡ []) l.lines.items;
  ones_room : vec_capacity l.ones ≡ vec_capacity l.initial.ones;
  lines_room : vec_capacity l.lines ≡ vec_capacity l.initial.lines;
}
