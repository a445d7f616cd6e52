use Rattle.script_laws.proofs.LawfulLaws.{read_lawful, read_whole}
use Rattle.script_laws.proofs.lawful_law.Goals as goal

pub returns : goal.returns
returns c = record { lawful = read_lawful; whole = read_whole }
