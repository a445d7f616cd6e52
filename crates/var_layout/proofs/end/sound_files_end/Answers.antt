use Rattle.var_layout.proofs.ElementPlaces.{sound_end}
use Rattle.var_layout.proofs.end.sound_files_end.Goals as goal

pub returns : goal.returns
returns c = sound_end
