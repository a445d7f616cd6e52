use Rattle.reference.proofs.Words.{length}
use Rattle.reference.proofs.elements.+push_index.Given as goal

abbrev pub decreases-push_index : goal.decreases-push_index
decreases-push_index l = length l.starts.now
