-- What one rank more asks for.
use Rattle.step_plan.proofs.Words.{◌≡◌, ℕ, ◌+◌, ◌++◌, ◌∙◌, refl, ap, sym, List, arith, next_numbered, Batch, Post, read_in, posts_of, asked_of, some_asked, nat_tests}
use Rattle.step_plan.proofs.asked.all_asked.Goals as goal

pub asked_by-asked-requires : goal.asked_by-asked-requires
asked_by-asked-requires c = grind (arith, nat_tests, read_in, c.requires.accepted, c.index-batches-number.is, c.posts_of-posts.ensures)

pub loop-number-init : goal.loop-number-init
loop-number-init c = let first : c.args.first + 0 ≡ c.args.first = omega arith in rw (c.in_ok-list.ensures.items, first) refl

pub loop-number-preserved : goal.loop-number-preserved
loop-number-preserved c =
    next_numbered (λ (b : ℕ × Batch). some_asked (asked_of c.args.dataset.now.header.now b.0 (posts_of c.args.direction b.1))) c.args.batches.now c.loop-number.number
    (c.args.first + c.loop-number.number) (c.args.first + (c.loop-number.number + 1)) c.index-batches-number.result c.index-batches-number.result c.loop-number.list.items c.push_asked.new.list.items _
    c.loop-number-test.true (sym c.index-batches-number.is) (omega arith)
    (c.in_ok-push_asked.ensures ∙ ap (λ a. c.loop-number.list.items ++ some_asked a) (c.asked_by-asked.ensures
    ∙ ap (λ (ps : List Post). asked_of c.args.dataset.now.header.now (c.args.first + c.loop-number.number) ps) c.posts_of-posts.ensures))
    c.loop-number.invariant
