use Rattle.nc_base.proofs.Words.{◌≡◌, ◌++◌, ◌∷◌, [], arith, common_steps, to_z-of_z, numbers_of_form}
use Rattle.nc_base.proofs.EqLaws.{after_some}
use Rattle.nc_base.proofs.numbers.widest_of_words.Goals as goal

pub loop-k-preserved : goal.loop-k-preserved
loop-k-preserved c =
    let added : c.push.new.self.items ≡ c.loop-k.all.items ++ c.number_at.result ∷ [] = grind (arith, common_steps, to_z-of_z) in
    after_some [] c.loop-k.all.items c.push.new.self.items (numbers_of_form c.args.form.now) c.loop-k.k c.number_at.result c.number_at.ensures c.loop-k.invariant added
