-- A row has one dimension less.
use Rattle.fill_records.proofs.Words.{◌+◌, ◌*◌, length}
use Rattle.fill_records.proofs.box_parts.Cutter.+cutting.Given as goal

abbrev pub decreases-cut : goal.decreases-cut
decreases-cut l = 4 * length l.counts.now

abbrev pub decreases-cut_row : goal.decreases-cut_row
decreases-cut_row l = 4 * length l.counts.now + 1

abbrev pub decreases-cut_before : goal.decreases-cut_before
decreases-cut_before l = 4 * length l.counts.now + 2

abbrev pub decreases-cut_rows : goal.decreases-cut_rows
decreases-cut_rows l = 4 * length l.counts.now + 3
