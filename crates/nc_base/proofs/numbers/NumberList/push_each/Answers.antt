use Rattle.nc_base.proofs.Words.{◌≡◌, ◌++◌, ◌∷◌, [], arith, common_steps, to_z-of_z}
use Rattle.nc_base.proofs.EqLaws.{after_some}
use Rattle.nc_base.proofs.numbers.NumberList.push_each.Goals as goal

pub loop-k-preserved : goal.loop-k-preserved
loop-k-preserved c =
    let added : c.push.new.self ≡ c.loop-k.self ++ c.at.result ∷ [] = grind (arith, common_steps, to_z-of_z) in
    after_some c.args.self.now c.loop-k.self c.push.new.self c.args.more.now c.loop-k.k c.at.result c.at.ensures c.loop-k.invariant added
