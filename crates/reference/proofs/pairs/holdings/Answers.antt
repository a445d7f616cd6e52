-- Each put is accepted.
use Rattle.reference.proofs.Words.{read_in, arith, nat_tests}
use Rattle.reference.proofs.pairs.holdings.Goals as goal

pub bytes_of-requires-clause-accepted : goal.bytes_of-requires-clause-accepted
bytes_of-requires-clause-accepted c = grind (arith, nat_tests, read_in, c.requires.accepted)
