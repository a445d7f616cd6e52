use Rattle.dataset_start.proofs.Words.{refl}
use Rattle.dataset_start.proofs.Opened.{front_calls}
use Rattle.dataset_start.proofs.existing.first_bytes.Goals as goal

pub returns-clause-calls : goal.returns-clause-calls
returns-clause-calls g c =
    front_calls (g.D.Disk.held c.args.disk.now) (g.D.Disk.held c.start.new.self) _ (g.D.Disk.calls c.start.new.self) _ (c.start.ensures.kept refl) c.in_ok-start.ensures.calls c.in_ok-bytes.ensures.calls
