use Rattle.cdf_header.proofs.Answering.{begins_whole, begins_cut}
use Rattle.cdf_header.proofs.laws.written_law.Goals as goal

pub returns : goal.returns
returns c = record { whole = begins_whole; cut = begins_cut }
