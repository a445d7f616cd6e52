use Rattle.serial_spec.proofs.BoxLaws.{boxes_right}
use Rattle.serial_spec.proofs.file_laws.boxes_law.Goals as goal

pub returns : goal.returns
returns c = boxes_right
