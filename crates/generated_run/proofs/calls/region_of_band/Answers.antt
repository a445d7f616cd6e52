use Rattle.generated_run.proofs.Words.{rules, region_of_band}
use Rattle.generated_run.proofs.calls.region_of_band.Goals as goal

pub returns : goal.returns
unfolding region_of_band
returns c = search rules
