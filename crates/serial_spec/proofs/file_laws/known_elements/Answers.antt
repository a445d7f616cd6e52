use Rattle.serial_spec.proofs.RoomLaws.{index_is_element}
use Rattle.serial_spec.proofs.file_laws.known_elements.Goals as goal

pub returns : goal.returns
returns c = index_is_element
