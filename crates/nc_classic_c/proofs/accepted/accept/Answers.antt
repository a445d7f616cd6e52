-- The header is the one that was read.
use Rattle.nc_classic_c.proofs.Words.{IfErr-weaker, IfOk-weaker}
use Rattle.nc_classic_c.proofs.accepted.accept.Goals as goal

pub checked-requires : goal.checked-requires
checked-requires c = c.in_ok-region.ensures

pub returns-in-Ok-clause-ok : goal.returns-in-Ok-clause-ok
returns-in-Ok-clause-ok c = IfOk-weaker c.checked.result _ _ (λ accepted f. f c.args.bytes.now c.in-Ok.ensures.header) c.checked.ensures.ok

pub returns-in-Ok-clause-refused : goal.returns-in-Ok-clause-refused
returns-in-Ok-clause-refused c = IfErr-weaker c.checked.result _ _ (λ r f. f c.args.bytes.now c.in-Ok.ensures.header) c.checked.ensures.refused
