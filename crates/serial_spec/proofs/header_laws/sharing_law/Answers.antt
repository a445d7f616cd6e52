use Rattle.serial_spec.proofs.SharingLaws.{sharing_found, sharing_only, sharing_none}
use Rattle.serial_spec.proofs.header_laws.sharing_law.Goals as goal

pub returns : goal.returns
returns c = record { found = sharing_found; only = sharing_only; none = sharing_none }
