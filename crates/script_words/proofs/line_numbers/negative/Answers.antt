use Rattle.script_words.proofs.Cited.{arith, ints}
use Rattle.script_words.proofs.line_numbers.negative.Goals as goal

pub returns : goal.returns
returns c = omega (arith, ints)
