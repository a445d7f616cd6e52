use Rattle.nc_base.proofs.Words.{◌≡◌, take, numbers_of_form}
use Rattle.nc_base.proofs.numbers.widest_of_words.Given as goal

abbrev pub invariant-loop-k : goal.invariant-loop-k
invariant-loop-k l = l.all.items ≡ take l.k (numbers_of_form l.form)
