use Rattle.nc_base.proofs.Words.{◌≡◌, take}
use Rattle.nc_base.proofs.numbers.wide_words.Given as goal

abbrev pub invariant-loop-word : goal.invariant-loop-word
invariant-loop-word l = l.all.items ≡ take l.word-index l.words
