use Rattle.serial_spec.proofs.MoveLaws.{redefined_is}
use Rattle.serial_spec.proofs.AddedLaws.{redefined_keeps}
use Rattle.serial_spec.proofs.file_laws.redefined_law.Goals as goal

pub returns : goal.returns
returns c = record { keeps = redefined_keeps; file = redefined_is }
