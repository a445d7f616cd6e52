-- A rank after another.
use Rattle.collective_round.proofs.Words.{◌≡◌, ℕ, ◌+◌, ◌++◌, List, refl, sym, ap, ◌∙◌, arith, read_in, Batch, Post, entries_of_posts, posts_of, next_numbered, nat_tests}
use Rattle.collective_round.proofs.StepEntries.{few_posts}
use Rattle.collective_round.proofs.gathered.entries.Goals as goal

pub push_posts-requires-clause-few : goal.push_posts-requires-clause-few
push_posts-requires-clause-few c = grind (arith, nat_tests, read_in, few_posts, c.requires.few, c.posts_of.ensures)

pub push_posts-requires-clause-accepted : goal.push_posts-requires-clause-accepted
push_posts-requires-clause-accepted c = grind (arith, nat_tests, read_in, c.requires.accepted, c.loop-k-test.true, c.index-batches-k.is, c.posts_of.ensures)

pub loop-k-init : goal.loop-k-init
loop-k-init c = let first : c.args.first + 0 ≡ c.args.first = omega arith in rw (c.new-list.ensures.items, first) refl

pub loop-k-preserved : goal.loop-k-preserved
loop-k-preserved c =
    next_numbered (λ (b : ℕ × Batch). entries_of_posts c.args.dataset.now.header.now b.0 (posts_of c.args.direction b.1)) c.args.batches.now c.loop-k.k (c.args.first + c.loop-k.k)
    (c.args.first + (c.loop-k.k + 1)) c.index-batches-k.result c.index-batches-k.result c.loop-k.list.items c.push_posts.new.list.items _ c.loop-k-test.true (sym c.index-batches-k.is) (omega arith)
    (c.in_ok-push_posts.ensures ∙ ap (λ (ps : List Post). c.loop-k.list.items ++ entries_of_posts c.args.dataset.now.header.now (c.args.first + c.loop-k.k) ps) c.posts_of.ensures)
    c.loop-k.invariant
