use Rattle.generated_run.proofs.Words.{arith, bits_of_runs}
use Rattle.generated_run.proofs.TurnLaws.{no_temps, temps_pushed}
use Rattle.generated_run.proofs.bands.push_temps.Goals as goal

pub returns-then-count-eq0 : goal.returns-then-count-eq0
returns-then-count-eq0 c = no_temps (bits_of_runs c.args.out.now.items) c.args.first c.args.count (omega arith)

pub returns : goal.returns
returns c = temps_pushed c.args.out.now.items c.push.new.self.items _ c.args.first c.args.count c.requires (omega arith) c.in_ok-push.ensures.items
