-- The bytes that are copied are the file's.
use Rattle.data_sieving.proofs.Words.{entries_in}
use Rattle.data_sieving.proofs.CollectedSteps.{collected_read}
use Rattle.data_sieving.proofs.get.read_window.Goals as goal

pub returns-clause-read : goal.returns-clause-read
returns-clause-read g c =
    collected_read (g.D.Disk.held c.args.disk.now) (g.D.Disk.from c.args.disk.now) c.get_window.new.buf c.args.next.now.window.hull.at c.args.next.now.window.hull.len
    (entries_in c.args.next.now) c.args.blobs.now c.collect_window.new.blobs c.requires.low c.in_ok-get_window.ensures.read c.collect_window.ensures.each
