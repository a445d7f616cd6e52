-- What is lent stays the same from one step to the next.
use Rattle.file_owner.proofs.Words.{AreSame, Outlets, arith, nat_tests}

pub same_then : {D T : Type 0} {a b c : Outlets D T} → AreSame a b → AreSame b c → AreSame a c
same_then first second = grind (arith, nat_tests)
