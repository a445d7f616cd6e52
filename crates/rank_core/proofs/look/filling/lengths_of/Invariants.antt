use Rattle.rank_core.proofs.Words.{◌≡◌, take, lengths_of}
use Rattle.rank_core.proofs.look.filling.lengths_of.Given as goal

abbrev pub invariant-loop-id : goal.invariant-loop-id
invariant-loop-id l = l.lengths.items ≡ lengths_of l.header (take l.id-index l.ids)
