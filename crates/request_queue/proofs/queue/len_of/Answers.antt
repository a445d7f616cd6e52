use Rattle.request_queue.proofs.Words.{◌-◌, ◌^◌, ◌∙◌, ap, min, List, take_all, Post, bytes_in}
use Rattle.request_queue.proofs.queue.len_of.Goals as goal

pub returns : goal.returns
returns c =
    let whole = take_all c.loop-post.post-index c.args.posts.now c.loop-post-test.false in
    c.loop-post.invariant ∙ ap (λ (l : List Post). min (bytes_in l) (2 ^ 64 - 1)) whole
