use Rattle.script_laws.proofs.HeaderLaws.{read_unplaced, read_writable}
use Rattle.script_laws.proofs.header_law.Goals as goal

pub returns : goal.returns
returns c = record { unplaced = read_unplaced; writable = read_writable }
