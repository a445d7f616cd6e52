-- The entries so far, and those of the posts that are left, are all.
use Rattle.collective_round.proofs.Words.{◌≡◌, ◌++◌, drop, flat_map, enumerate_from, entries_of, entries_of_posts}
use Rattle.collective_round.proofs.gathered.push_posts.Given as goal

abbrev pub invariant-loop-slot : goal.invariant-loop-slot
invariant-loop-slot l =
    l.list.items ++ flat_map (λ p. entries_of l.dataset.header.now l.rank p.0 p.1) (enumerate_from l.slot (drop l.slot l.posts))
    ≡ l.initial.list.items ++ entries_of_posts l.dataset.header.now l.rank l.posts
