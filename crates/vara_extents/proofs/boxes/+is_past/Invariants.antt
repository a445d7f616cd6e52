use Rattle.vara_extents.proofs.Words.{length}
use Rattle.vara_extents.proofs.boxes.+is_past.Given as goal

abbrev pub decreases-is_past : goal.decreases-is_past
decreases-is_past l = length l.starts.now
