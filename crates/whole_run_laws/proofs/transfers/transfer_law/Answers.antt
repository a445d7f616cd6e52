use Rattle.whole_run_laws.proofs.HullLengths.{meeting_short, solo_puts_short, solo_gets_short, solo_short, run_short}
use Rattle.whole_run_laws.proofs.transfers.transfer_law.Goals as goal

pub returns : goal.returns
returns c = record { meeting = meeting_short; solo_puts = solo_puts_short; solo_gets = solo_gets_short; solo = solo_short; run = run_short }
