use Rattle.request_queue.proofs.Words.{◌≡◌, ◌-◌, ◌^◌, min, take, bytes_in}
use Rattle.request_queue.proofs.queue.len_of.Given as goal

abbrev pub invariant-loop-post : goal.invariant-loop-post
invariant-loop-post l = l.len ≡ min (bytes_in (take l.post-index l.posts)) (2 ^ 64 - 1)
