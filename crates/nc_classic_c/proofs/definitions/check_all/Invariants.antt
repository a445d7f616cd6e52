-- None of those before is refused.
use Rattle.nc_classic_c.proofs.Words.{◌≡◌, [], take, drop, first_refused}
use Rattle.nc_classic_c.proofs.definitions.check_all.Given as goal

abbrev pub invariant-loop-k : goal.invariant-loop-k
invariant-loop-k g l = first_refused (g.T.Checked.refusal l.among) (take l.k l.items) (drop l.k l.items) ≡ first_refused (g.T.Checked.refusal l.among) [] l.items
