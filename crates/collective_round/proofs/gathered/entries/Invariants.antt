-- The entries so far, and those of the batches that are left, are all.
use Rattle.collective_round.proofs.Words.{◌≡◌, ◌+◌, ◌++◌, drop, flat_map, enumerate_from, entries_of_all, entries_of_posts, posts_of}
use Rattle.collective_round.proofs.gathered.entries.Given as goal

abbrev pub invariant-loop-k : goal.invariant-loop-k
invariant-loop-k l =
    l.list.items ++ flat_map (λ b. entries_of_posts l.dataset.header.now b.0 (posts_of l.direction b.1)) (enumerate_from (l.first + l.k) (drop l.k l.batches))
    ≡ entries_of_all l.dataset.header.now l.direction l.first l.batches
