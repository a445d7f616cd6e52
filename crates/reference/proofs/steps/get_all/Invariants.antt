-- The bytes so far, and those of the gets that are left.
use Rattle.reference.proofs.Words.{◌≡◌, ◌++◌, drop, map, get_post, Setting}
use Rattle.reference.proofs.steps.get_all.Given as goal

abbrev pub invariant-loop-post : goal.invariant-loop-post
invariant-loop-post l = (s : Setting) → s.header ≡ l.header → l.got.items ++ map (get_post s l.file) (drop l.post-index l.posts) ≡ map (get_post s l.file) l.posts
