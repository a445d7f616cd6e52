use Rattle.plan_text.proofs.Cited.{◌≡◌, ◌++◌, take, flat_map, share_words}
use Rattle.plan_text.proofs.phases.push_shares.Given as goal

abbrev pub invariant-loop-share : goal.invariant-loop-share
invariant-loop-share l = l.out.items ≡ l.initial.out.items ++ flat_map (share_words l.direction) (take l.share-index l.shares)
