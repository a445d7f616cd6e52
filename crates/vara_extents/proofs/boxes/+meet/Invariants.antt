use Rattle.vara_extents.proofs.Words.{length}
use Rattle.vara_extents.proofs.boxes.+meet.Given as goal

abbrev pub decreases-meet : goal.decreases-meet
decreases-meet l = length l.starts.now
