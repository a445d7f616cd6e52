use Rattle.script_spelling.proofs.Told.{spelled_read, one_script, some_script, no_script}
use Rattle.script_spelling.proofs.read_law.Goals as goal

pub returns : goal.returns
returns c = record { read = spelled_read; one = one_script; accepted = some_script; refused = no_script }
