-- The laws of a redefinition, of the two headers.
use Rattle.redef_mover.proofs.Words.{arith, on_err_weaker, after-same, nat_tests}
use Rattle.redef_mover.proofs.AppliedLaws.{has_laws, relocated, relocation_called}
use Rattle.redef_mover.proofs.CutLaws.{relocation_keeps, relocation_torn}
use Rattle.redef_mover.proofs.relocation.relocate.Goals as goal

pub carry-requires-clause-carriable : goal.carry-requires-clause-carriable
carry-requires-clause-carriable g c κs within = (has_laws c.args.old.now c.args.new.now c.requires.applied).carriable

pub returns-clause-bytes : goal.returns-clause-bytes
returns-clause-bytes g c = grind (arith, nat_tests, after-same, relocated, has_laws, c.carry.ensures.bytes)

pub returns-clause-calls : goal.returns-clause-calls
returns-clause-calls g c =
    grind (arith, nat_tests, relocation_called c.args.size c.args.old.now c.args.new.now, has_laws c.args.old.now c.args.new.now c.requires.applied, c.carry.ensures.calls)

pub returns-clause-refused : goal.returns-clause-refused
returns-clause-refused g c =
    on_err_weaker c.carry.result
    (relocation_torn c.args.old.now c.args.new.now (g.D.Disk.held c.args.disk.now) (g.D.Disk.held c.carry.new.disk)
    (has_laws c.args.old.now c.args.new.now c.requires.applied))
    c.carry.ensures.refused

pub returns-clause-stays : goal.returns-clause-stays
returns-clause-stays g c = grind (arith, nat_tests, relocation_keeps, has_laws, c.carry.ensures.refused)
