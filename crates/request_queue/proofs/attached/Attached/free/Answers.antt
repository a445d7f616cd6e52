use Rattle.std.proofs.lemmas.Bool.Decides.{nat_tests}
use Rattle.std.proofs.Common.{arith}
use Rattle.request_queue.proofs.Freed.{freed}
use Rattle.request_queue.proofs.attached.Attached.free.Goals as goal

pub release-requires : goal.release-requires
release-requires c = grind (arith, nat_tests, freed c.self.inside.blobs.items c.args.ticket.number c.bytes.result.now, c.bytes.ensures)

pub invariant_of-self : goal.invariant_of-self
invariant_of-self c = grind (arith, nat_tests, freed, c.bytes.ensures, c.release.ensures)
