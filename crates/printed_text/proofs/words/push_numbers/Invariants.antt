use Rattle.printed_text.proofs.Cited.{◌≡◌, ◌++◌, map, take, signed_decimal, spaced}
use Rattle.printed_text.proofs.words.push_numbers.Given as goal

abbrev pub invariant-loop-k : goal.invariant-loop-k
invariant-loop-k l = l.out.items ≡ l.initial.out.items ++ spaced (map signed_decimal (take l.k l.numbers))
