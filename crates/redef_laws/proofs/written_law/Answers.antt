use Rattle.redef_laws.proofs.WrittenLaws.{written}
use Rattle.redef_laws.proofs.written_law.Goals as goal

pub returns : goal.returns
returns c = written
