use Rattle.run_laws.proofs.Words.{append-nil, arith, nat_tests}
use Rattle.run_laws.proofs.OrderLaws.{state_more, states_more, calls_more, calls_close, own_solos, own_solo_calls}
use Rattle.run_laws.proofs.order_law.Goals as goal

pub returns : goal.returns
returns c = record {
  state = state_more;
  states = states_more;
  calls = calls_more;
  one_call = λ hints s state order m. grind (arith, nat_tests, calls_more, append-nil);
  close = calls_close;
  own = own_solos;
  own_calls = own_solo_calls;
}
