use Rattle.file_owner.proofs.Words.{true, false, entry_replicate}
use Rattle.file_owner.proofs.stops.Senders.new.Goals as goal

pub returns : goal.returns
returns c = λ q e. let never = entry_replicate 64 q false true e in absurd cc
