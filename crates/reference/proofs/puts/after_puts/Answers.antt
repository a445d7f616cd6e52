-- The file is as long as the puts need it, and has them.
use Rattle.reference.proofs.Words.{end_of, arith, nat_tests, fold, longer}
use Rattle.reference.proofs.PutSteps.{ends_low}
use Rattle.reference.proofs.puts.after_puts.Goals as goal

pub needed_by-needed-requires : goal.needed_by-needed-requires
needed_by-needed-requires c = record { accepted = λ p m. (c.requires.right p m).accepted }

pub end_of-requires-clause-below : goal.end_of-requires-clause-below
end_of-requires-clause-below c = grind (arith, nat_tests, ends_low c.args.header.now c.args.puts.now c.requires.sound, c.needed_by-needed.ensures, c.requires.right)

pub returns : goal.returns
returns c = grind (arith, nat_tests, fold, longer, c.needed_by-needed.ensures, c.end_of.ensures, c.in_ok-lengthen.ensures, c.in_ok-write_all.ensures)
