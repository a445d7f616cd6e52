use Rattle.rank_core.proofs.Words.{◌≡◌, map, take}
use Rattle.serial_spec.specs.Looks as looks
use Rattle.rank_core.proofs.look.filling.box_posts.Given as goal

abbrev pub invariant-loop-part : goal.invariant-loop-part
invariant-loop-part l = l.posts ≡ map (looks.box_post l.target.place l.target.var.now l.number) (take l.part-index l.parts)
