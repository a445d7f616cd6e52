use Rattle.cdf_header.proofs.Answering.{no_longer}
use Rattle.cdf_header.proofs.laws.no_longer_spelling_law.Goals as goal

pub returns : goal.returns
returns c = no_longer
