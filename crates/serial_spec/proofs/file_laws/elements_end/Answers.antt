use Rattle.serial_spec.proofs.RoomLaws.{element_inside, end_grows}
use Rattle.serial_spec.proofs.file_laws.elements_end.Goals as goal

pub returns : goal.returns
returns c = record { inside = element_inside; grows = end_grows }
