use Rattle.std.proofs.Math.Nat.{mod-add-mod}
use Rattle.generated_run.proofs.bands.first_of.Goals as goal

pub returns-clause-value : goal.returns-clause-value
returns-clause-value c = rw c.from-values.ensures (mod-add-mod c.args.seed c.args.values c.args.place)
