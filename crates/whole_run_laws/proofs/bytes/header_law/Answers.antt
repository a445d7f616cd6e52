use Rattle.whole_run_laws.proofs.PastLaws.{all_past, header_stays}
use Rattle.whole_run_laws.proofs.bytes.header_law.Goals as goal

pub returns : goal.returns
returns c = record { past_header = all_past; header_stays = header_stays }
